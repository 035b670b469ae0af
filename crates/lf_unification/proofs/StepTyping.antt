-- Steps that declare nothing keep stores typed and well formed.
use Rattle.std.proofs.Common.{◌≡◌, ℕ, zero, suc, List, [], ◌∷◌, Option, Some, None, inl, inr, refl, sym, ap, ◌∙◌, subst}
use Rattle.std.specs.Prelude.{Bool, true, false}
use Rattle.lf.specs.Subordination.{Member}
use Rattle.lf.specs.Syntax.{Spine, Term, LfType, app, atom, constant, lambda, metavariable, nil, pi, rename, rename_spine, root, variable, lift_renaming}
use Rattle.lf.specs.Typing.{IsSignature, Signature, TypeAt, instantiate_type}
use Rattle.lf.specs.Variables.{onto, same_number}
use Rattle.lf.proofs.Checker.{number_is, number_itself}
use Rattle.lf_unification.specs.Dependency.{IsDependencyOrder, IsListed, ListedMetavariable, ValueIsOrdered}
use Rattle.lf_unification.specs.Lists.{followed}
use Rattle.lf_unification.specs.Offering.{argument_equations}
use Rattle.lf_unification.specs.OpenTyping.{Declares, MetavariablesIn, MetavariablesInSpine, OpenHasType, OpenSpineType, skeletons_of}
use Rattle.lf_unification.specs.Outside.{CanBind, Holds}
use Rattle.lf_unification.specs.PartialInstance.{EquationIsTyped, EquationsAreTyped, IsFilling, IsTypedStore}
use Rattle.lf_unification.specs.Patterns.{beyond, lambdas_of, pattern_renaming}
use Rattle.lf_unification.specs.Inversion.{IsPattern}
use Rattle.lf_unification.specs.Putting.{PutsSome, Unbound, binders}
use Rattle.lf_unification.specs.Solving.{BindingsAreListed, IsWellFormed, ValuesAreBindings}
use Rattle.lf_unification.specs.Steps.{Step, bind, drop_equal, equal_heads, next_equation, on_pattern, open_lambdas, prune_both, prune_inside, put_bindings, renew, store_at}
use Rattle.lf_unification.specs.Unifiers.{Binding, Equation, Store, equation_on, on_left}
use Rattle.lf_unification.proofs.BindingKeeps.{bind_ok, in_lambdas}
use Rattle.lf_unification.proofs.EquationLemmas.{solves_first, solves_followed}
use Rattle.lf_unification.proofs.Fillings.{EquationsAreTyped-weaker, LocalBySkeletonsUpTo-weaker, TypeBySkeletonsUpTo-weaker, fillings_half}
use Rattle.lf_unification.proofs.Indices.{all_skeletons, here_skeletons}
use Rattle.lf_unification.proofs.Facing.{filling_back, typed_facing}
use Rattle.lf_unification.proofs.Putting.{some_same, some_typed, typed_at}
use Rattle.lf_unification.proofs.Partition.{before, behind, chosen, in_chosen, in_rest, is_true, pick}
use Rattle.lf_unification.proofs.Place.{bound, bound_listed, put_at}
use Rattle.lf_unification.proofs.Reach.{can_bind_ordered}
use Rattle.lf_unification.proofs.RigidSteps.{change_ok, lambda_ok, parts_fewer, parts_ok, solves_rest}
use Rattle.lf_unification.proofs.Scope.{in_weaker}
use Rattle.lf_unification.proofs.Settle.{drop_ok}
use Rattle.lf_unification.proofs.Steps.{in_renamed}
use Rattle.lf_unification.proofs.Typed.{OpenHasType-weaker, OpenIsType-weaker}

-- the step declares a metavariable
abbrev pub Declaring : {Σ : Signature} {s s' : Store} → Step Σ s s' → Type 0
Declaring (next_equation es e fs) = ⊥
Declaring (put_bindings f g) = ⊥
Declaring drop_equal = ⊥
Declaring open_lambdas = ⊥
Declaring (equal_heads h A r t) = ⊥
Declaring (bind side D m xs N C d u p b) = ⊥
Declaring (prune_inside side D m xs N C d p c u n w) = Unit {0}
Declaring (prune_both side D m xs N C d p c u n w) = Unit {0}
Declaring (renew m A A' d u b p n w) = Unit {0}

-- lists of typed equations
module _ (Σ : Signature) (G : List LfType) (Ψ : ℕ → Option LfType) (U : (ℕ → Option Term) → Type 0) where
  typed_first : (es fs : List Equation) → EquationsAreTyped Σ G Ψ U (followed es fs) → EquationsAreTyped Σ G Ψ U es
  typed_first [] fs w = tt
  typed_first (e ∷ es) fs (x, w) = (x, typed_first es fs w)

  typed_rest : (es fs : List Equation) → EquationsAreTyped Σ G Ψ U (followed es fs) → EquationsAreTyped Σ G Ψ U fs
  typed_rest [] fs w = w
  typed_rest (e ∷ es) fs (x, w) = typed_rest es fs w

  pub typed_followed : (es fs : List Equation) → EquationsAreTyped Σ G Ψ U es → EquationsAreTyped Σ G Ψ U fs → EquationsAreTyped Σ G Ψ U (followed es fs)
  typed_followed [] fs w v = v
  typed_followed (e ∷ es) fs (x, w) v = (x, typed_followed es fs w v)

module _ (Σ : Signature) (ok : IsSignature Σ) where
  -- a binding
  module _ (Ψ : ℕ → Option LfType) (bs : List Binding) (es : List Equation) (A : LfType) (D : List LfType) (m : ℕ) (xs : List ℕ) (N : Term) where
    abbrev bound_store : (b : CanBind Ψ bs D m xs N) → Store
    bound_store b = record { metavariables = Ψ; bindings = record { of = m; value = lambdas_of (skeletons_of Ψ m) b.inverted.inversion } ∷ bs; equations = es }

    bind_fewer : (C : LfType) → Ψ m ≡ Some A → IsPattern D (skeletons_of Ψ m) xs → (b : CanBind Ψ bs D m xs N) → IsTypedStore Σ [] (store_at on_left Ψ bs es D (on_pattern Ψ m xs) N C) → (β : ℕ → Option Term) → IsFilling Σ [] (bound_store b) β → IsFilling Σ [] (store_at on_left Ψ bs es D (on_pattern Ψ m xs) N C) β
    bind_fewer (atom c T) d p b w β v =
        subst (λ X. IsFilling Σ [] (store_at on_left Ψ bs es D (on_pattern Ψ m xs) X (atom c T)) β) b.inverted.is
        (Rattle.lf_unification.proofs.BindingKeeps.fewer Σ ok [] Ψ bs es D m A d xs p.places p.distinct b.inverted.inversion c T β v)
    bind_fewer (pi X Y) d p b w β v = absurd w.equations_typed.0.left_typed

    bind_typed : (C : LfType) → Ψ m ≡ Some A → IsPattern D (skeletons_of Ψ m) xs → (b : CanBind Ψ bs D m xs N) → IsTypedStore Σ [] (store_at on_left Ψ bs es D (on_pattern Ψ m xs) N C) → IsTypedStore Σ [] (bound_store b)
    bind_typed (atom c T) d p b w = bind_ok Σ ok [] Ψ bs es D m A d xs p.places p.distinct b.inverted.inversion c T
        (subst (λ X. IsTypedStore Σ [] (store_at on_left Ψ bs es D (on_pattern Ψ m xs) X (atom c T))) (sym b.inverted.is) w)
    bind_typed (pi X Y) d p b w = absurd w.equations_typed.0.left_typed

  -- a step leaves no new filling
  pub step_fewer : {s s' : Store} → IsTypedStore Σ [] s → (p : Step Σ s s') → (Declaring p → ⊥) → (β : ℕ → Option Term) → IsFilling Σ [] s' β → IsFilling Σ [] s β
  step_fewer w (next_equation {Ψ = Ψ} {bs = bs} es e fs) n β (F, h, (r, (x, y))) = (F, h, (r, solves_followed (skeletons_of Ψ) β es (e ∷ fs) (solves_first (skeletons_of Ψ) β es fs y) (x, solves_rest (skeletons_of Ψ) β es fs y)))
  step_fewer w (put_bindings {Ψ = Ψ} {bs = bs} {es = es} {D = D} {M = M} {M' = M'} {N = N} {N' = N'} {C = C} f g) n β (F, h, (r, (x, y))) =
      let U : (ℕ → Option Term) → Type 0 = IsFilling Σ [] (store_at on_left Ψ bs es D M N C) in
      let t = typed_at Σ [] Ψ U bs w.bindings_typed in
      (F, h, (r, (some_same Σ ok [] Ψ U bs t F β h r D M M' C w.equations_typed.0.left_typed f ∙ x ∙ sym (some_same Σ ok [] Ψ U bs t F β h r D N N' C w.equations_typed.0.right_typed g), y)))
  step_fewer w drop_equal n β (F, h, (r, y)) = (F, h, (r, (refl, y)))
  step_fewer w open_lambdas n β (F, h, (r, (x, y))) = (F, h, (r, (ap lambda x, y)))
  step_fewer w (equal_heads {Ψ = Ψ} {bs = bs} {es = es} {D = D} {S = S} {T = T} {I = I} {a = a} h A r t) n β u = parts_fewer Σ ok [] Ψ bs es D h r A t S T a I w β u
  step_fewer w (bind {Ψ = Ψ} {bs = bs} {es = es} {A = A} side D m xs N C d u p b) n β v =
      filling_back D (on_pattern Ψ m xs) N C Σ ok [] Ψ bs es side β (bind_fewer Ψ bs es A D m xs N C d p b (typed_facing D (on_pattern Ψ m xs) N C Σ ok [] Ψ bs es side w) β v)
  step_fewer w (prune_inside side D m xs N C d p c u n x) k β v = absurd (k tt)
  step_fewer w (prune_both side D m xs N C d p c u n x) k β v = absurd (k tt)
  step_fewer w (renew m A A' d u b p n x) k β v = absurd (k tt)

  -- THE theorem on typing
  pub step_keeps_typing : {s s' : Store} → IsTypedStore Σ [] s → (p : Step Σ s s') → (Declaring p → ⊥) → IsTypedStore Σ [] s'
  step_keeps_typing w (next_equation {Ψ = Ψ} {bs = bs} es e fs) n =
      let U' : (ℕ → Option Term) → Type 0 = IsFilling Σ [] (record { metavariables = Ψ; bindings = bs; equations = e ∷ followed es fs }) in
      let f : (β : ℕ → Option Term) → U' β → IsFilling Σ [] (record { metavariables = Ψ; bindings = bs; equations = followed es (e ∷ fs) }) β = step_fewer w (next_equation es e fs) n in
      let v : EquationsAreTyped Σ [] Ψ U' (followed es (e ∷ fs)) = EquationsAreTyped-weaker Σ [] Ψ (IsFilling Σ [] (record { metavariables = Ψ; bindings = bs; equations = followed es (e ∷ fs) })) U' f (followed es (e ∷ fs)) w.equations_typed in
      change_ok Σ [] Ψ bs (followed es (e ∷ fs)) (e ∷ followed es fs) f w
      ((typed_rest Σ [] Ψ U' es (e ∷ fs) v).0, typed_followed Σ [] Ψ U' es fs (typed_first Σ [] Ψ U' es (e ∷ fs) v) (typed_rest Σ [] Ψ U' es (e ∷ fs) v).1)
  step_keeps_typing w (put_bindings {Ψ = Ψ} {bs = bs} {es = es} {D = D} {M = M} {M' = M'} {N = N} {N' = N'} {C = C} f g) n =
      let s : Store = store_at on_left Ψ bs es D M N C in
      let U : (ℕ → Option Term) → Type 0 = IsFilling Σ [] s in
      let U' : (ℕ → Option Term) → Type 0 = IsFilling Σ [] (store_at on_left Ψ bs es D M' N' C) in
      let h : (β : ℕ → Option Term) → U' β → U β = step_fewer w (put_bindings f g) n in
      let old : EquationIsTyped Σ [] Ψ U (record { local = D; left = M; right = N; of_type = C }) = w.equations_typed.0 in
      let put : (X X' : Term) → PutsSome Ψ bs (binders D) X X' → OpenHasType Σ [] Ψ U D X C → OpenHasType Σ [] Ψ U' D X' C = λ X X' d t. OpenHasType-weaker Σ [] Ψ U U' h D X' C
      (some_typed Σ ok Ψ U w.declarations_typed (fillings_half Σ [] s) bs (typed_at Σ [] Ψ U bs w.bindings_typed) (λ β u. u.2.0) d D C refl
      (λ i X g. here_skeletons Σ ok [] Ψ U w.declarations_typed (fillings_half Σ [] s) D old.local_typed i X g) (all_skeletons Σ ok [] Ψ U w.declarations_typed (fillings_half Σ [] s) D old.local_typed C old.type_typed) t) in
      change_ok Σ [] Ψ bs (record { local = D; left = M; right = N; of_type = C } ∷ es) (record { local = D; left = M'; right = N'; of_type = C } ∷ es) h w (
        record { local_typed = LocalBySkeletonsUpTo-weaker Σ [] Ψ U U' h D old.local_typed; type_typed = TypeBySkeletonsUpTo-weaker Σ [] Ψ U U' h D C old.type_typed; left_typed = put M M' f old.left_typed; right_typed = put N N' g old.right_typed },
        EquationsAreTyped-weaker Σ [] Ψ U U' h es w.equations_typed.1,
      )
  step_keeps_typing w (drop_equal {Ψ = Ψ} {bs = bs} {es = es} {D = D} {M = M} {C = C}) n = drop_ok Σ ok [] Ψ bs es D M M C (λ β u. refl) w
  step_keeps_typing w (open_lambdas {Ψ = Ψ} {bs = bs} {es = es} {D = D} {M = M} {N = N} {A = A} {B = B}) n = lambda_ok Σ ok [] Ψ bs es D A B M N w
  step_keeps_typing w (equal_heads {Ψ = Ψ} {bs = bs} {es = es} {D = D} {S = S} {T = T} {I = I} {a = a} h A r t) n = parts_ok Σ ok [] Ψ bs es D h r A t S T a I w
  step_keeps_typing w (bind {Ψ = Ψ} {bs = bs} {es = es} {A = A} side D m xs N C d u p b) n = bind_typed Ψ bs es A D m xs N C d p b (typed_facing D (on_pattern Ψ m xs) N C Σ ok [] Ψ bs es side w)
  step_keeps_typing w (prune_inside side D m xs N C d p c u n x) k = absurd (k tt)
  step_keeps_typing w (prune_both side D m xs N C d p c u n x) k = absurd (k tt)
  step_keeps_typing w (renew m A A' d u b p n x) k = absurd (k tt)

-- an order, up to fewer fillings
pub order_weaker : (Σ : Signature) (Ψ : ℕ → Option LfType) (U U' : (ℕ → Option Term) → Type 0) → ((β : ℕ → Option Term) → U' β → U β) → (is : List ListedMetavariable) → IsDependencyOrder Σ Ψ U is → IsDependencyOrder Σ Ψ U' is
order_weaker Σ Ψ U U' f [] o = tt
order_weaker Σ Ψ U U' f (it ∷ is) (o, d, n, i, t, c, v) = (order_weaker Σ Ψ U U' f is o, d, n, i, OpenIsType-weaker Σ [] Ψ U U' f [] it.of_type t, c, value it.value v)
  where
    value : (x : Option Term) → ValueIsOrdered Σ Ψ U is it.of_type x → ValueIsOrdered Σ Ψ U' is it.of_type x
    value None v = tt
    value (Some N) (j, u, e) = (j, OpenHasType-weaker Σ [] Ψ U U' f [] N it.of_type u, e)

-- a change of equations keeps a store well formed, where it leaves no new filling and the store is typed
pub equations_well_formed : (Σ : Signature) (Ψ : ℕ → Option LfType) (bs : List Binding) (es es' : List Equation) →
    ((β : ℕ → Option Term) → IsFilling Σ [] (record { metavariables = Ψ; bindings = bs; equations = es' }) β → IsFilling Σ [] (record { metavariables = Ψ; bindings = bs; equations = es }) β) →
    IsTypedStore Σ [] (record { metavariables = Ψ; bindings = bs; equations = es' }) → IsWellFormed Σ (record { metavariables = Ψ; bindings = bs; equations = es }) → IsWellFormed Σ (record { metavariables = Ψ; bindings = bs; equations = es' })
equations_well_formed Σ Ψ bs es es' f t w = record {
  order = w.order;
  is_order = order_weaker Σ Ψ (IsFilling Σ [] (record { metavariables = Ψ; bindings = bs; equations = es })) (IsFilling Σ [] (record { metavariables = Ψ; bindings = bs; equations = es' })) f w.order w.is_order;
  all_listed = w.all_listed;
  bindings_listed = w.bindings_listed;
  values_bound = w.values_bound;
  typed = t;
}

-- what is typed in the empty context is closed
module _ (Σ : Signature) (Ψ : ℕ → Option LfType) (U : (ℕ → Option Term) → Type 0) where
  pub lifted : (D : List LfType) (ρ : ℕ → ℕ) (A : LfType) → ((i : ℕ) (X : LfType) → TypeAt (onto D []) i X → ρ i ≡ i) → (i : ℕ) (X : LfType) → TypeAt (onto (A ∷ D) []) i X → lift_renaming ρ i ≡ i
  lifted D ρ A h zero X g = refl
  lifted D ρ A h (suc i) X (C, g, e) = ap suc (h i C g)

  mutual
    pub closed_term : (D : List LfType) (ρ : ℕ → ℕ) → ((i : ℕ) (X : LfType) → TypeAt (onto D []) i X → ρ i ≡ i) → (M : Term) (A : LfType) → OpenHasType Σ [] Ψ U D M A → rename ρ M ≡ M
    closed_term D ρ h (lambda M) (pi A B) m = ap lambda (closed_term (A ∷ D) (lift_renaming ρ) (lifted D ρ A h) M B m)
    closed_term D ρ h (lambda M) (atom a T) m = absurd m
    closed_term D ρ h (root x S) (pi A B) m = absurd m
    closed_term D ρ h (root (constant c) S) (atom a T) (A, g, s) = ap (root (constant c)) (closed_spine D ρ h S A (atom a T) s)
    closed_term D ρ h (root (variable i) S) (atom a T) (A, g, s) = ap (λ j. root (variable j) (rename_spine ρ S)) (h i A g) ∙ ap (root (variable i)) (closed_spine D ρ h S A (atom a T) s)
    closed_term D ρ h (root (metavariable m) S) (atom a T) (A, g, s) = ap (root (metavariable m)) (closed_spine D ρ h S A (atom a T) s)

    closed_spine : (D : List LfType) (ρ : ℕ → ℕ) → ((i : ℕ) (X : LfType) → TypeAt (onto D []) i X → ρ i ≡ i) → (S : Spine) (A C : LfType) → OpenSpineType Σ [] Ψ U D S A C → rename_spine ρ S ≡ S
    closed_spine D ρ h nil A C s = refl
    closed_spine D ρ h (app M S) (pi A B) C (m, s) = ap (λ x. app x (rename_spine ρ S)) (closed_term D ρ h M A m) ∙ ap (app M) (closed_spine D ρ h S (instantiate_type A M B) C s)
    closed_spine D ρ h (app M S) (atom a T) C s = absurd s

  mutual
    mentions_declared : (D : List LfType) (M : Term) (A : LfType) → OpenHasType Σ [] Ψ U D M A → MetavariablesIn (Declares Ψ) M
    mentions_declared D (lambda M) (pi A B) m = mentions_declared (A ∷ D) M B m
    mentions_declared D (lambda M) (atom a T) m = absurd m
    mentions_declared D (root h S) (pi A B) m = absurd m
    mentions_declared D (root (constant c) S) (atom a T) (A, g, s) = spine_mentions_declared D S A (atom a T) s
    mentions_declared D (root (variable i) S) (atom a T) (A, g, s) = spine_mentions_declared D S A (atom a T) s
    mentions_declared D (root (metavariable m) S) (atom a T) (A, (B, g, e), s) = ((B, g), spine_mentions_declared D S A (atom a T) s)

    spine_mentions_declared : (D : List LfType) (S : Spine) (A C : LfType) → OpenSpineType Σ [] Ψ U D S A C → MetavariablesInSpine (Declares Ψ) S
    spine_mentions_declared D nil A C s = tt
    spine_mentions_declared D (app M S) (pi A B) C (m, s) = (mentions_declared D M A m, spine_mentions_declared D S (instantiate_type A M B) C s)
    spine_mentions_declared D (app M S) (atom a T) C s = absurd s

-- where an item stands after the partition and the binding
listed_parts : (r : ℕ → Bool) (is : List ListedMetavariable) (k : ℕ) → IsListed is k → IsListed (followed (chosen false r is) (chosen true r is)) k
listed_parts r is k l = go (r k) refl
  where
    go : (b : Bool) → r k ≡ b → IsListed (followed (chosen false r is) (chosen true r is)) k
    go true q = behind r (chosen false r is) (chosen true r is) k (in_chosen r is k l (subst is_true (sym q) tt))
    go false q = before r (chosen false r is) (chosen true r is) k (in_rest r is k l q)

member_chosen : (b : Bool) (r : ℕ → Bool) (is : List ListedMetavariable) (it : ListedMetavariable) → Member it is → r it.of ≡ b → Member it (chosen b r is)
member_chosen b r [] it i e = i
member_chosen b r (x ∷ is) it (inl q) e = go b (r x.of) (ap (λ y. r y.of) (sym q) ∙ e)
  where
    go : (b c : Bool) → c ≡ b → Member it (pick b c x (chosen b r is))
    go true true p = inl q
    go false false p = inl q
    go true false p = cc
    go false true p = cc
member_chosen b r (x ∷ is) it (inr i) e = go b (r x.of) (member_chosen b r is it i e)
  where
    go : (b c : Bool) → Member it (chosen b r is) → Member it (pick b c x (chosen b r is))
    go true true h = inr h
    go false false h = inr h
    go true false h = h
    go false true h = h

member_left : (it : ListedMetavariable) (xs ys : List ListedMetavariable) → Member it xs → Member it (followed xs ys)
member_left it [] ys i = absurd i
member_left it (x ∷ xs) ys (inl e) = inl e
member_left it (x ∷ xs) ys (inr i) = inr (member_left it xs ys i)

member_right : (it : ListedMetavariable) (xs ys : List ListedMetavariable) → Member it ys → Member it (followed xs ys)
member_right it [] ys i = i
member_right it (x ∷ xs) ys i = inr (member_right it xs ys i)

member_parts : (r : ℕ → Bool) (is : List ListedMetavariable) (it : ListedMetavariable) → Member it is → Member it (followed (chosen false r is) (chosen true r is))
member_parts r is it i = go (r it.of) refl
  where
    go : (b : Bool) → r it.of ≡ b → Member it (followed (chosen false r is) (chosen true r is))
    go true q = member_right it (chosen false r is) (chosen true r is) (member_chosen true r is it i q)
    go false q = member_left it (chosen false r is) (chosen true r is) (member_chosen false r is it i q)

pub member_bound : (m : ℕ) (N : Term) (is : List ListedMetavariable) (it : ListedMetavariable) → Member it is → (m ≡ it.of → ⊥) → Member it (bound m N is)
member_bound m N [] it i n = i
member_bound m N (x ∷ is) it (inr i) n = inr (member_bound m N is it i n)
member_bound m N (x ∷ is) it (inl e) n = inl (e ∙ kept (same_number m x.of) refl)
  where
    kept : (b : Bool) → same_number m x.of ≡ b → x ≡ put_at b x N
    kept true q = absurd (n (number_is m x.of q ∙ ap (λ y. y.of) (sym e)))
    kept false q = refl

pub bound_here : (m : ℕ) (N : Term) (is : List ListedMetavariable) → IsListed is m → (A : LfType) × Member (record { of = m; of_type = A; value = Some N }) (bound m N is)
bound_here m N [] l = absurd l
bound_here m N (x ∷ is) (inr l) = let (A, i) = bound_here m N is l in (A, inr i)
bound_here m N (x ∷ is) (inl e) = (x.of_type, inl (go (same_number m x.of) refl))
  where
    go : (b : Bool) → same_number m x.of ≡ b → record { of = m; of_type = x.of_type; value = Some N } ≡ put_at b x N
    go true q = ap (λ k. let y : ListedMetavariable = record { of = k; of_type = x.of_type; value = Some N } in y) e
    go false q = (let p : true ≡ false = sym (number_itself m) ∙ ap (same_number m) e ∙ q in cc)

-- the values are the bindings
module _ (bs : List Binding) where
  values_followed : (xs ys : List ListedMetavariable) → ValuesAreBindings bs xs → ValuesAreBindings bs ys → ValuesAreBindings bs (followed xs ys)
  values_followed [] ys v w = w
  values_followed (x ∷ xs) ys (u, v) w = (u, values_followed xs ys v w)

  values_chosen : (b : Bool) (r : ℕ → Bool) (is : List ListedMetavariable) → ValuesAreBindings bs is → ValuesAreBindings bs (chosen b r is)
  values_chosen b r [] v = v
  values_chosen b r (x ∷ is) (u, v) = go b (r x.of) (values_chosen b r is v)
    where
      go : (b c : Bool) → ValuesAreBindings bs (chosen b r is) → ValuesAreBindings bs (pick b c x (chosen b r is))
      go true true h = (u, h)
      go false false h = (u, h)
      go true false h = h
      go false true h = h

  pub values_of_bound : (m : ℕ) (N : Term) (is : List ListedMetavariable) → ValuesAreBindings bs is → ValuesAreBindings (record { of = m; value = N } ∷ bs) (bound m N is)
  values_of_bound m N [] v = tt
  values_of_bound m N (x ∷ is) (u, v) = (go (same_number m x.of) refl, values_of_bound m N is v)
    where
      go : (b : Bool) → same_number m x.of ≡ b → (P : Term) → (put_at b x N).value ≡ Some P → Member (record { of = (put_at b x N).of; value = P }) (record { of = m; value = N } ∷ bs)
      go true q P e = (let p : N ≡ P = cc in inl (ap (λ k. let y : Binding = record { of = k; value = P } in y) (sym (number_is m x.of q)) ∙ ap (λ z. let y : Binding = record { of = m; value = z } in y) (sym p)))
      go false q P e = inr (u P e)

pub bindings_moved : (r : ℕ → Bool) (m : ℕ) (N : Term) (is : List ListedMetavariable) (bs : List Binding) → Unbound bs m → BindingsAreListed is bs → BindingsAreListed (bound m N (followed (chosen false r is) (chosen true r is))) bs
bindings_moved r m N is [] u l = tt
bindings_moved r m N is (b ∷ bs) (n, u) ((A, i), l) = (
  (A, member_bound m N (followed (chosen false r is) (chosen true r is)) (record { of = b.of; of_type = A; value = Some b.value }) (member_parts r is (record { of = b.of; of_type = A; value = Some b.value }) i) n),
  bindings_moved r m N is bs u l,
)

module _ (Σ : Signature) (ok : IsSignature Σ) where
  -- a binding keeps a store well formed, whatever the equations before were
  bind_well_formed : (Ψ : ℕ → Option LfType) (bs : List Binding) (fs es : List Equation) (D : List LfType) (N : Term) (A : LfType) (m : ℕ) (xs : List ℕ) → Ψ m ≡ Some A → Unbound bs m → (b : CanBind Ψ bs D m xs N) →
      ((β : ℕ → Option Term) → IsFilling Σ [] (record { metavariables = Ψ; bindings = record { of = m; value = lambdas_of (skeletons_of Ψ m) b.inverted.inversion } ∷ bs; equations = es }) β → IsFilling Σ [] (record { metavariables = Ψ; bindings = bs; equations = fs }) β) →
      IsTypedStore Σ [] (record { metavariables = Ψ; bindings = record { of = m; value = lambdas_of (skeletons_of Ψ m) b.inverted.inversion } ∷ bs; equations = es }) →
      IsWellFormed Σ (record { metavariables = Ψ; bindings = bs; equations = fs }) →
      IsWellFormed Σ (record { metavariables = Ψ; bindings = record { of = m; value = lambdas_of (skeletons_of Ψ m) b.inverted.inversion } ∷ bs; equations = es })
  bind_well_formed Ψ bs fs es D N A m xs d u b f t w = record {
    order = bound m V parts;
    is_order = can_bind_ordered Σ Ψ U' bs b.reached m A V b.avoids reached d typed (λ ρ. closed_term Σ Ψ U' [] ρ (λ i X g. absurd g) V A typed) w.order (order_weaker Σ Ψ U U' f w.order w.is_order) w.values_bound listed;
    all_listed = λ k X e. bound_listed m V parts k (listed_parts b.reached w.order k (w.all_listed k X e));
    bindings_listed = (bound_here m V parts (listed_parts b.reached w.order m (w.all_listed m A d)), bindings_moved b.reached m V w.order bs u w.bindings_listed);
    values_bound = values_of_bound bs m V parts (values_followed bs (chosen false b.reached w.order) (chosen true b.reached w.order) (values_chosen bs false b.reached w.order w.values_bound) (values_chosen bs true b.reached w.order w.values_bound));
    typed = t;
  }
    where
      V : Term
      V = lambdas_of (skeletons_of Ψ m) b.inverted.inversion

      U : (ℕ → Option Term) → Type 0
      U = IsFilling Σ [] (record { metavariables = Ψ; bindings = bs; equations = fs })

      U' : (ℕ → Option Term) → Type 0
      U' = IsFilling Σ [] (record { metavariables = Ψ; bindings = record { of = m; value = lambdas_of (skeletons_of Ψ m) b.inverted.inversion } ∷ bs; equations = es })

      parts : List ListedMetavariable
      parts = followed (chosen false b.reached w.order) (chosen true b.reached w.order)

      typed : OpenHasType Σ [] Ψ (IsFilling Σ [] (record { metavariables = Ψ; bindings = record { of = m; value = lambdas_of (skeletons_of Ψ m) b.inverted.inversion } ∷ bs; equations = es })) [] (lambdas_of (skeletons_of Ψ m) b.inverted.inversion) A
      typed = let v = t.bindings_typed.0 in let q : v.0 ≡ A = (let p : Some v.0 ≡ Some A = sym v.1 ∙ d in cc) in
          subst (OpenHasType Σ [] Ψ (IsFilling Σ [] (record { metavariables = Ψ; bindings = record { of = m; value = lambdas_of (skeletons_of Ψ m) b.inverted.inversion } ∷ bs; equations = es })) [] (lambdas_of (skeletons_of Ψ m) b.inverted.inversion)) q v.2

      reached : MetavariablesIn (λ k. Holds (b.reached k)) (lambdas_of (skeletons_of Ψ m) b.inverted.inversion)
      reached = in_lambdas (λ k. Holds (b.reached k)) (skeletons_of Ψ m) b.inverted.inversion (in_renamed (λ k. Holds (b.reached k)) (pattern_renaming (skeletons_of Ψ m) xs (beyond D)) b.inverted.inversion (subst (MetavariablesIn (λ k. Holds (b.reached k))) (sym b.inverted.is) b.within))

      listed : MetavariablesIn (IsListed w.order) (lambdas_of (skeletons_of Ψ m) b.inverted.inversion)
      listed = in_weaker (Declares Ψ) (IsListed w.order) (λ k p. w.all_listed k p.0 p.1) (lambdas_of (skeletons_of Ψ m) b.inverted.inversion) (mentions_declared Σ Ψ (IsFilling Σ [] (record { metavariables = Ψ; bindings = record { of = m; value = lambdas_of (skeletons_of Ψ m) b.inverted.inversion } ∷ bs; equations = es })) [] (lambdas_of (skeletons_of Ψ m) b.inverted.inversion) A typed)

  -- THE theorem: a step that declares nothing keeps a store well formed
  pub step_keeps_form : {s s' : Store} → IsWellFormed Σ s → (p : Step Σ s s') → (Declaring p → ⊥) → IsWellFormed Σ s'
  step_keeps_form w (next_equation {Ψ = Ψ} {bs = bs} es e fs) n = equations_well_formed Σ Ψ bs (followed es (e ∷ fs)) (e ∷ followed es fs) (step_fewer Σ ok w.typed (next_equation es e fs) n) (step_keeps_typing Σ ok w.typed (next_equation es e fs) n) w
  step_keeps_form w (put_bindings {Ψ = Ψ} {bs = bs} {es = es} {D = D} {M = M} {M' = M'} {N = N} {N' = N'} {C = C} f g) n = equations_well_formed Σ Ψ bs (record { local = D; left = M; right = N; of_type = C } ∷ es) (record { local = D; left = M'; right = N'; of_type = C } ∷ es) (step_fewer Σ ok w.typed (put_bindings f g) n) (step_keeps_typing Σ ok w.typed (put_bindings f g) n) w
  step_keeps_form w (drop_equal {Ψ = Ψ} {bs = bs} {es = es} {D = D} {M = M} {C = C}) n = equations_well_formed Σ Ψ bs (record { local = D; left = M; right = M; of_type = C } ∷ es) es (step_fewer Σ ok w.typed drop_equal n) (step_keeps_typing Σ ok w.typed drop_equal n) w
  step_keeps_form w (open_lambdas {Ψ = Ψ} {bs = bs} {es = es} {D = D} {M = M} {N = N} {A = A} {B = B}) n = equations_well_formed Σ Ψ bs (record { local = D; left = lambda M; right = lambda N; of_type = pi A B } ∷ es) (record { local = A ∷ D; left = M; right = N; of_type = B } ∷ es) (step_fewer Σ ok w.typed open_lambdas n) (step_keeps_typing Σ ok w.typed open_lambdas n) w
  step_keeps_form w (equal_heads {Ψ = Ψ} {bs = bs} {es = es} {D = D} {S = S} {T = T} {I = I} {a = a} h A r t) n = equations_well_formed Σ Ψ bs (record { local = D; left = root h S; right = root h T; of_type = atom a I } ∷ es) (followed (argument_equations D A S T) es) (step_fewer Σ ok w.typed (equal_heads h A r t) n) (step_keeps_typing Σ ok w.typed (equal_heads h A r t) n) w
  step_keeps_form w (bind {Ψ = Ψ} {bs = bs} {es = es} {A = A} side D m xs N C d u p b) n =
      bind_well_formed Ψ bs (equation_on side D (on_pattern Ψ m xs) N C ∷ es) es D N A m xs d u b (step_fewer Σ ok w.typed (bind side D m xs N C d u p b) n) (step_keeps_typing Σ ok w.typed (bind side D m xs N C d u p b) n) w
  step_keeps_form w (prune_inside side D m xs N C d p c u n x) k = absurd (k tt)
  step_keeps_form w (prune_both side D m xs N C d p c u n x) k = absurd (k tt)
  step_keeps_form w (renew m A A' d u b p n x) k = absurd (k tt)
