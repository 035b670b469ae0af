-- An order of dependency of some of a store's metavariables is the end of one of all.
use Rattle.std.proofs.Common.{◌≡◌, ℕ, zero, suc, ◌<◌, List, [], ◌∷◌, length, Option, Some, None, ◌⊎◌, inl, inr, refl, sym, ap, ◌∙◌, subst, arith}
use Rattle.lf.specs.Subordination.{Member}
use Rattle.lf.specs.Syntax.{LfType, Skeleton, Term, skeleton}
use Rattle.lf.specs.Typing.{IsContext, IsSignature, Signature}
use Rattle.lf_unification.specs.Dependency.{IsDependencyOrder, IsListed, ListedMetavariable, ValueIsOrdered, free_context, values}
use Rattle.lf_unification.specs.Filling.{fill, fill_type, moved, rename_value}
use Rattle.lf_unification.specs.OpenTyping.{set_at, skeletons_of}
use Rattle.lf_unification.specs.PartialInstance.{IsFilling}
use Rattle.lf_unification.specs.Patterns.{eta_variable}
use Rattle.lf_unification.specs.Putting.{Unbound}
use Rattle.lf_unification.specs.Solving.{BindingsAreListed, IsWellFormed, ValuesAreBindings}
use Rattle.lf_unification.specs.Unifiers.{Binding, Solution, Store}
use Rattle.lf_unification.proofs.Answer.{answer_of}
use Rattle.lf_unification.proofs.Offer.{decide, set_other}
use Rattle.lf_unification.proofs.Scope.{in_weaker, in_weaker_type}
use Rattle.lf_unification.proofs.Solving.{binding_of, listed_binding, listed_once}
use Rattle.lf_search.specs.Answers.{AreTypedValues, AreValuesOf, FreeAreUnbound}
use Rattle.lf_search.proofs.Dropping.{IsLong, drop_from_values, rename_all}

pub listed_or_not : (is : List ListedMetavariable) (m : ℕ) → IsListed is m ⊎ (IsListed is m → ⊥)
listed_or_not [] m = inr (λ l. l)
listed_or_not (it ∷ is) m = go (decide m it.of) (listed_or_not is m)
  where
    go : (m ≡ it.of) ⊎ (m ≡ it.of → ⊥) → IsListed is m ⊎ (IsListed is m → ⊥) → IsListed (it ∷ is) m ⊎ (IsListed (it ∷ is) m → ⊥)
    go (inl e) r = inl (inl e)
    go (inr n) (inl l) = inl (inr l)
    go (inr n) (inr h) = inr no
      where
        no : IsListed (it ∷ is) m → ⊥
        no (inl e) = n e
        no (inr l) = h l

pub item_listed : (is : List ListedMetavariable) (it : ListedMetavariable) → Member it is → IsListed is it.of
item_listed [] it i = absurd i
item_listed (j ∷ js) it (inl e) = inl (ap (λ (x : ListedMetavariable). x.of) e)
item_listed (j ∷ js) it (inr i) = inr (item_listed js it i)

pub listed_item : (is : List ListedMetavariable) (m : ℕ) → IsListed is m → (it : ListedMetavariable) × Member it is × (m ≡ it.of)
listed_item [] m l = absurd l
listed_item (it ∷ is) m (inl e) = (it, inl refl, e)
listed_item (it ∷ is) m (inr l) = let (x, i, e) = listed_item is m l in (x, inr i, e)

unbound_member : (bs : List Binding) (m : ℕ) → Unbound bs m → (b : Binding) → Member b bs → m ≡ b.of → ⊥
unbound_member [] m u b i e = i
unbound_member (c ∷ bs) m (n, u) b (inl q) e = n (e ∙ ap (λ (x : Binding). x.of) q)
unbound_member (c ∷ bs) m (n, u) b (inr i) e = unbound_member bs m u b i e

free_at : (bs : List Binding) (is : List ListedMetavariable) → FreeAreUnbound bs is → (it : ListedMetavariable) → Member it is → it.value ≡ None → Unbound bs it.of
free_at bs [] f it i e = absurd i
free_at bs (x ∷ is) (u, f) it (inl q) e = subst (λ (y : ListedMetavariable). Unbound bs y.of) (sym q) (u (ap (λ (y : ListedMetavariable). y.value) (sym q) ∙ e))
free_at bs (x ∷ is) (u, f) it (inr i) e = free_at bs is f it i e

abbrev put_in_front : (is : List ListedMetavariable) (j : ListedMetavariable) → IsListed is j.of ⊎ (IsListed is j.of → ⊥) → List ListedMetavariable → List ListedMetavariable
put_in_front is j (inl l) fs = fs
put_in_front is j (inr n) fs = j ∷ fs

-- those of the second list that the first has not, in front of the first
abbrev pub whole : List ListedMetavariable → List ListedMetavariable → List ListedMetavariable
whole is [] = is
whole is (j ∷ js) = put_in_front is j (listed_or_not is j.of) (whole is js)

module _ (is : List ListedMetavariable) where
  pub first_listed : (js : List ListedMetavariable) (m : ℕ) → IsListed is m → IsListed (whole is js) m
  first_listed [] m l = l
  first_listed (j ∷ js) m l = go (listed_or_not is j.of) (first_listed js m l)
    where
      go : (x : IsListed is j.of ⊎ (IsListed is j.of → ⊥)) → IsListed (whole is js) m → IsListed (put_in_front is j x (whole is js)) m
      go (inl k) h = h
      go (inr n) h = inr h

  pub second_listed : (js : List ListedMetavariable) (m : ℕ) → IsListed js m → IsListed (whole is js) m
  second_listed [] m l = absurd l
  second_listed (j ∷ js) m l = go (listed_or_not is j.of) l (first_listed js m) (second_listed js m)
    where
      go : (x : IsListed is j.of ⊎ (IsListed is j.of → ⊥)) → (m ≡ j.of) ⊎ IsListed js m → (IsListed is m → IsListed (whole is js) m) → (IsListed js m → IsListed (whole is js) m) → IsListed (put_in_front is j x (whole is js)) m
      go (inl k) (inl e) f s = f (subst (IsListed is) (sym e) k)
      go (inl k) (inr l) f s = s l
      go (inr n) (inl e) f s = inl e
      go (inr n) (inr l) f s = inr (s l)

  only_listed : (js : List ListedMetavariable) (m : ℕ) → IsListed (whole is js) m → IsListed js m ⊎ IsListed is m
  only_listed [] m l = inr l
  only_listed (j ∷ js) m l = go (listed_or_not is j.of) l (only_listed js m)
    where
      later : IsListed js m ⊎ IsListed is m → IsListed (j ∷ js) m ⊎ IsListed is m
      later (inl l) = inl (inr l)
      later (inr l) = inr l

      go : (x : IsListed is j.of ⊎ (IsListed is j.of → ⊥)) → IsListed (put_in_front is j x (whole is js)) m → (IsListed (whole is js) m → IsListed js m ⊎ IsListed is m) → IsListed (j ∷ js) m ⊎ IsListed is m
      go (inl k) l h = later (h l)
      go (inr n) (inl e) h = inl (inl e)
      go (inr n) (inr l) h = later (h l)

  pub first_member : (js : List ListedMetavariable) (it : ListedMetavariable) → Member it is → Member it (whole is js)
  first_member [] it i = i
  first_member (j ∷ js) it i = go (listed_or_not is j.of) (first_member js it i)
    where
      go : (x : IsListed is j.of ⊎ (IsListed is j.of → ⊥)) → Member it (whole is js) → Member it (put_in_front is j x (whole is js))
      go (inl k) h = h
      go (inr n) h = inr h

  pub second_member : (js : List ListedMetavariable) (it : ListedMetavariable) → Member it js → (IsListed is it.of → ⊥) → Member it (whole is js)
  second_member [] it i n = absurd i
  second_member (j ∷ js) it i n = go (listed_or_not is j.of) i (second_member js it)
    where
      go : (x : IsListed is j.of ⊎ (IsListed is j.of → ⊥)) → (it ≡ j) ⊎ Member it js → (Member it js → (IsListed is it.of → ⊥) → Member it (whole is js)) → Member it (put_in_front is j x (whole is js))
      go (inl k) (inl e) h = absurd (n (subst (λ (y : ListedMetavariable). IsListed is y.of) (sym e) k))
      go (inl k) (inr i) h = h i n
      go (inr m) (inl e) h = inl e
      go (inr m) (inr i) h = inr (h i n)

  module _ (Σ : Signature) (Ψ : ℕ → Option LfType) (U : (ℕ → Option Term) → Type 0) (o : IsDependencyOrder Σ Ψ U is) where
    pub whole_order : (js : List ListedMetavariable) → IsDependencyOrder Σ Ψ U js → IsDependencyOrder Σ Ψ U (whole is js)
    whole_order [] p = o
    whole_order (j ∷ js) p = go (listed_or_not is j.of) (whole_order js p.0)
      where
        no : (IsListed is j.of → ⊥) → IsListed js j.of ⊎ IsListed is j.of → ⊥
        no n (inl l) = p.2 l
        no n (inr l) = n l

        value : (x : Option Term) → ValueIsOrdered Σ Ψ U js j.of_type x → ValueIsOrdered Σ Ψ U (whole is js) j.of_type x
        value None v = tt
        value (Some N) (i, t, c) = (in_weaker (IsListed js) (IsListed (whole is js)) (second_listed js) N i, t, c)

        go : (x : IsListed is j.of ⊎ (IsListed is j.of → ⊥)) → IsDependencyOrder Σ Ψ U (whole is js) → IsDependencyOrder Σ Ψ U (put_in_front is j x (whole is js))
        go (inl k) h = h
        go (inr n) h = (h, p.1, (λ l. no n (only_listed js j.of l)), in_weaker_type (IsListed js) (IsListed (whole is js)) (second_listed js) j.of_type p.3, p.4, p.5, value j.value p.6)

  -- the values of what is in front drop away from those of the rest
  module _ (Σ : Signature) (ok : IsSignature Σ) (μ : ℕ → Skeleton) where
    valued_apart : (C : List LfType) (Ns : List Term) (β γ : ℕ → Option Term) → ((m : ℕ) → m < length C → γ m ≡ β m) → AreValuesOf β C Ns → AreValuesOf γ C Ns
    valued_apart [] [] β γ h v = tt
    valued_apart [] (N ∷ Ns) β γ h v = absurd v
    valued_apart (A ∷ C) [] β γ h v = absurd v
    valued_apart (A ∷ C) (N ∷ Ns) β γ h (e, v) = (h (length C) (omega arith) ∙ e, valued_apart C Ns β γ (λ m l. h m (omega arith)) v)

    valued_moved : (C : List LfType) (Ns : List Term) (β : ℕ → Option Term) → AreValuesOf β C Ns → AreValuesOf (moved suc β) C (rename_all suc Ns)
    valued_moved [] [] β v = tt
    valued_moved [] (N ∷ Ns) β v = absurd v
    valued_moved (A ∷ C) [] β v = absurd v
    valued_moved (A ∷ C) (N ∷ Ns) β (e, v) = (ap (rename_value suc) e, valued_moved C Ns β v)

    values_long : (C : List LfType) (Ns : List Term) (β : ℕ → Option Term) → AreValuesOf β C Ns → IsLong C Ns
    values_long [] [] β v = tt
    values_long [] (N ∷ Ns) β v = absurd v
    values_long (A ∷ C) [] β v = absurd v
    values_long (A ∷ C) (N ∷ Ns) β (e, v) = values_long C Ns β v

    module _ (C : List LfType) (c : IsContext Σ C) (Ns : List Term) (all : (m : ℕ) → m < length C → IsListed is m) (known : AreValuesOf (values μ is) C Ns) where
      pub record Dropped (fs : List ListedMetavariable) : Type 0 where
        pub long_values : List Term
        pub are_values : AreValuesOf (values μ fs) C long_values
        pub back_context : IsContext Σ (free_context μ fs) → IsContext Σ (free_context μ is)
        pub back_values : AreTypedValues Σ (free_context μ fs) C long_values → AreTypedValues Σ (free_context μ is) C Ns

      pub dropped : (js : List ListedMetavariable) → Dropped (whole is js)
      dropped [] = record { long_values = Ns; are_values = known; back_context = λ x. x; back_values = λ x. x }
      dropped (j ∷ js) = go (listed_or_not is j.of) (dropped js)
        where
          bound_one : (fs : List ListedMetavariable) (n : ℕ) (A : LfType) (x : Option Term) → (IsListed is n → ⊥) → Dropped fs → Dropped (record { of = n; of_type = A; value = x } ∷ fs)
          bound_one fs n A (Some N) out d = record {
            long_values = d.long_values;
            are_values = valued_apart C d.long_values (values μ fs) (set_at n (Some (fill μ (values μ fs) N)) (values μ fs)) (λ m l. set_other n (Some (fill μ (values μ fs) N)) (values μ fs) m (λ e. out (subst (IsListed is) e (all m l)))) d.are_values;
            back_context = d.back_context;
            back_values = d.back_values;
          }
          bound_one fs n A None out d = record {
            long_values = rename_all suc d.long_values;
            are_values = valued_apart C (rename_all suc d.long_values) (moved suc (values μ fs)) (set_at n (Some (eta_variable (skeleton A) zero)) (moved suc (values μ fs)))
                (λ m l. set_other n (Some (eta_variable (skeleton A) zero)) (moved suc (values μ fs)) m (λ e. out (subst (IsListed is) e (all m l)))) (valued_moved C d.long_values (values μ fs) d.are_values);
            back_context = λ x. d.back_context x.0;
            back_values = λ x. d.back_values (drop_from_values Σ ok (free_context μ fs) (fill_type μ (values μ fs) A) C d.long_values c (values_long C d.long_values (values μ fs) d.are_values) x);
          }

          go : (x : IsListed is j.of ⊎ (IsListed is j.of → ⊥)) → Dropped (whole is js) → Dropped (put_in_front is j x (whole is js))
          go (inl k) d = d
          go (inr n) d = bound_one (whole is js) j.of j.of_type j.value n d

-- THE lemma: the whole order has an answer
module _ (Σ : Signature) (ok : IsSignature Σ) (s : Store) (w : IsWellFormed Σ s) (none : s.equations ≡ []) (is : List ListedMetavariable) (o : IsDependencyOrder Σ s.metavariables (IsFilling Σ [] s) is) (bound : ValuesAreBindings s.bindings is) (free : FreeAreUnbound s.bindings is) where
  abbrev pub all_of : List ListedMetavariable
  all_of = whole is w.order

  value_same : (x y : ListedMetavariable) → x ≡ y → x.value ≡ y.value
  value_same x y e = ap (λ (z : ListedMetavariable). z.value) e

  some_is : {A : Type 0} {x y : A} → Some x ≡ Some y → x ≡ y
  some_is e = cc

  binding_listed : (b : Binding) → Member b s.bindings → (A : LfType) × Member (record { of = b.of; of_type = A; value = Some b.value }) all_of
  binding_listed b i = go (listed_or_not is b.of)
    where
      in_order : (A : LfType) × Member (record { of = b.of; of_type = A; value = Some b.value }) w.order
      in_order = listed_binding w.order s.bindings w.bindings_listed b i

      go : IsListed is b.of ⊎ (IsListed is b.of → ⊥) → (A : LfType) × Member (record { of = b.of; of_type = A; value = Some b.value }) all_of
      go (inr n) = (in_order.0, second_member is w.order (record { of = b.of; of_type = in_order.0; value = Some b.value }) in_order.1 n)
      go (inl l) = let (it, j, e) = listed_item is b.of l in at it j e it.value refl
        where
          at : (it : ListedMetavariable) → Member it is → b.of ≡ it.of → (x : Option Term) → it.value ≡ x → (A : LfType) × Member (record { of = b.of; of_type = A; value = Some b.value }) all_of
          at it j e None q = absurd (unbound_member s.bindings it.of (free_at s.bindings is free it j q) b i (sym e))
          at it j e (Some N) q =
              let (A', k) = listed_binding w.order s.bindings w.bindings_listed (record { of = it.of; value = N }) (binding_of s.bindings is bound it j N q) in
              let same : Some b.value ≡ Some N = value_same (record { of = b.of; of_type = in_order.0; value = Some b.value }) (record { of = it.of; of_type = A'; value = Some N })
              (listed_once Σ s.metavariables (IsFilling Σ [] s) w.order w.is_order (record { of = b.of; of_type = in_order.0; value = Some b.value }) (record { of = it.of; of_type = A'; value = Some N }) in_order.1 k e) in
              let first : Member (record { of = it.of; of_type = it.of_type; value = it.value }) all_of = first_member is w.order it j in
              (it.of_type, subst (λ n. Member (record { of = n; of_type = it.of_type; value = Some b.value }) all_of) (sym e) (subst (λ x. Member (record { of = it.of; of_type = it.of_type; value = x }) all_of) (q ∙ sym same) first))

  bindings_listed : (bs : List Binding) → ((b : Binding) → Member b bs → Member b s.bindings) → BindingsAreListed all_of bs
  bindings_listed [] h = tt
  bindings_listed (b ∷ bs) h = (binding_listed b (h b (inl refl)), bindings_listed bs (λ c i. h c (inr i)))

  pub whole_answer : Solution Σ [] s (free_context (skeletons_of s.metavariables) all_of) (values (skeletons_of s.metavariables) all_of)
  whole_answer = answer_of Σ ok s none all_of (whole_order is Σ s.metavariables (IsFilling Σ [] s) o w.order w.is_order) (λ m A e. second_listed is w.order m (w.all_listed m A e)) (bindings_listed s.bindings (λ b i. i)) w.typed
