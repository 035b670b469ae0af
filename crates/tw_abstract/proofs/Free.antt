-- The variables of the free metavariables of an order.
use Rattle.std.proofs.Common.{◌≡◌, ℕ, zero, suc, inl, inr, List, [], ◌∷◌, ◌++◌, Option, Some, None, refl, sym, ap, ◌∙◌, subst}
use Rattle.lf.specs.Subordination.{Member}
use Rattle.lf.specs.Syntax.{LfType, Skeleton, Term, nil, skeleton, variable}
use Rattle.lf.specs.Typing.{Signature}
use Rattle.lf.proofs.Eta.{rename_eta_expand}
use Rattle.lf_unification.specs.Dependency.{IsDependencyOrder, IsListed, ListedMetavariable, ValueIsOrdered, add_value, values}
use Rattle.lf_unification.specs.Filling.{fill, moved, rename_value}
use Rattle.lf_unification.specs.OpenTyping.{MetavariablesIn, set_at, skeletons_of}
use Rattle.lf_unification.specs.Patterns.{eta_variable}
use Rattle.lf_unification.specs.Putting.{Unbound}
use Rattle.lf_unification.specs.Skeletons.{skeleton_or_default}
use Rattle.lf_unification.specs.Solving.{BindingsAreListed, ValuesAreBindings}
use Rattle.lf_unification.specs.Unifiers.{Binding}
use Rattle.lf_unification.proofs.Agree.{set_here}
use Rattle.lf_unification.proofs.Offer.{set_other}
use Rattle.lf_unification.proofs.Scope.{in_weaker}
use Rattle.tw_abstract.specs.Free.{add_inner, free_metavariables}
use Rattle.tw_abstract.specs.Positions.{index}
use Rattle.tw_abstract.proofs.Index.{index_innermost, index_outer}

unbound_not : (bs : List Binding) (m : ℕ) → Unbound bs m → (b : Binding) → Member b bs → m ≡ b.of → ⊥
unbound_not [] m u b i e = i
unbound_not (c ∷ bs) m (n, u) b (inl q) e = n (e ∙ ap (λ x. x.of) q)
unbound_not (c ∷ bs) m (n, u) b (inr i) e = unbound_not bs m u b i e

module _ (Σ : Signature) (Ψ : ℕ → Option LfType) (U : (ℕ → Option Term) → Type 0) (bs : List Binding) where
  abbrev μ : ℕ → Skeleton
  μ = skeletons_of Ψ

  -- the variable of a free metavariable, by its place and by the values
  abbrev pub HasVariable : List ℕ → (ℕ → Option Term) → ℕ → Type 0
  HasVariable ns β m = (i : ℕ) × (index ns m ≡ Some i) × (β m ≡ Some (eta_variable (μ m) i))

  innermost : (ns : List ℕ) (β : ℕ → Option Term) (n m : ℕ) (A : LfType) → Ψ n ≡ Some A → m ≡ n → HasVariable (ns ++ n ∷ []) (set_at n (Some (eta_variable (skeleton A) zero)) (moved suc β)) m
  innermost ns β n m A d e = subst (HasVariable (ns ++ n ∷ []) (set_at n (Some (eta_variable (skeleton A) zero)) (moved suc β))) (sym e)
      (zero, index_innermost ns n, set_here n (Some (eta_variable (skeleton A) zero)) (moved suc β) ∙ ap (λ a. Some (eta_variable a zero)) (sym (ap skeleton_or_default d)))

  outer : (ns : List ℕ) (β : ℕ → Option Term) (n m : ℕ) (V : Term) → (m ≡ n → ⊥) → HasVariable ns β m → HasVariable (ns ++ n ∷ []) (set_at n (Some V) (moved suc β)) m
  outer ns β n m V h (i, e, q) = (suc i, index_outer ns n m i h e, set_other n (Some V) (moved suc β) m h ∙ ap (rename_value suc) q ∙ ap Some (rename_eta_expand suc (μ m) (variable i) nil))

  pub free_variable : (is : List ListedMetavariable) → IsDependencyOrder Σ Ψ U is → ValuesAreBindings bs is → (m : ℕ) → IsListed is m → Unbound bs m → HasVariable (free_metavariables is) (values μ is) m
  free_variable [] o v m l u = absurd l
  free_variable (it ∷ is) o (v, vs) m l u = go (λ k. free_variable is o.0 vs m k u) it.value refl l
    where
      go : (IsListed is m → HasVariable (free_metavariables is) (values (skeletons_of Ψ) is) m) → (x : Option Term) → it.value ≡ x → IsListed (it ∷ is) m → HasVariable (add_inner x it.of (free_metavariables is)) (add_value (skeletons_of Ψ) it.of it.of_type x (values (skeletons_of Ψ) is)) m
      go others None q (inl e) = innermost (free_metavariables is) (values (skeletons_of Ψ) is) it.of m it.of_type o.1 e
      go others None q (inr l) = outer (free_metavariables is) (values (skeletons_of Ψ) is) it.of m (eta_variable (skeleton it.of_type) zero) (λ e. o.2 (subst (IsListed is) e l)) (others l)
      go others (Some N) q (inl e) = absurd (unbound_not bs m u (record { of = it.of; value = N }) (v N q) e)
      go others (Some N) q (inr l) =
          let (i, e, p) = others l in
          (i, e, set_other it.of (Some (fill (skeletons_of Ψ) (values (skeletons_of Ψ) is) N)) (values (skeletons_of Ψ) is) m (λ e. o.2 (subst (IsListed is) e l)) ∙ p)

  -- a listed value mentions what is listed
  pub value_listed : (is : List ListedMetavariable) → IsDependencyOrder Σ Ψ U is → (n : ℕ) (A : LfType) (N : Term) → Member (record { of = n; of_type = A; value = Some N }) is → MetavariablesIn (IsListed is) N
  value_listed [] o n A N i = absurd i
  value_listed (it ∷ is) o n A N (inr i) = in_weaker (IsListed is) (IsListed (it ∷ is)) (λ k l. inr l) N (value_listed is o.0 n A N i)
  value_listed (it ∷ is) o n A N (inl e) =
      let v : ValueIsOrdered Σ Ψ U is it.of_type (Some N) = subst (ValueIsOrdered Σ Ψ U is it.of_type) (sym (ap (λ x. x.value) e)) o.6 in
      in_weaker (IsListed is) (IsListed (it ∷ is)) (λ k l. inr l) N v.0

  -- the listed ones of the bound metavariables have their values
  abbrev pub Covers : List ListedMetavariable → Type 0
  Covers is = (b : Binding) → Member b bs → IsListed is b.of → (A : LfType) × Member (record { of = b.of; of_type = A; value = Some b.value }) is

  pub all_covered : (is : List ListedMetavariable) (cs : List Binding) → BindingsAreListed is cs → (b : Binding) → Member b cs → (A : LfType) × Member (record { of = b.of; of_type = A; value = Some b.value }) is
  all_covered is [] c b i = absurd i
  all_covered is (d ∷ cs) (l, c) b (inl e) = subst (λ x. (A : LfType) × Member (record { of = x.of; of_type = A; value = Some x.value }) is) (sym e) l
  all_covered is (d ∷ cs) (l, c) b (inr i) = all_covered is cs c b i

  -- and so without the newest
  pub outer_covered : (it : ListedMetavariable) (is : List ListedMetavariable) → IsDependencyOrder Σ Ψ U (it ∷ is) → Covers (it ∷ is) → Covers is
  outer_covered it is o c b i l = go (c b i (inr l))
    where
      go : (A : LfType) × Member (record { of = b.of; of_type = A; value = Some b.value }) (it ∷ is) → (A : LfType) × Member (record { of = b.of; of_type = A; value = Some b.value }) is
      go (A, inl e) = absurd (o.2 (subst (IsListed is) (ap (λ x. x.of) e) l))
      go (A, inr k) = (A, k)
