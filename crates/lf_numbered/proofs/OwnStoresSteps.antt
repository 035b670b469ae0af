-- Stores that a filling puts on own terms: steps keep this, where the filling respects the bindings that they lead to.
use Rattle.std.proofs.Common.{◌≡◌, ℕ, zero, suc, ◌⊎◌, List, [], ◌∷◌, Option, Some, None, inl, inr, refl, sym, ap, ap₂, ◌∙◌, subst}
use Rattle.lf.specs.Subordination.{Member}
use Rattle.lf.specs.Syntax.{metavariable, Term, Spine, root, nil, app, LfType, pi, atom, Skeleton, base, arrow, skeleton, rename, rename_spine, rename_type, weaken}
use Rattle.lf.specs.Typing.{TypeAt, instantiate_type}
use Rattle.lf.specs.Variables.{onto}
use Rattle.lf.proofs.Renaming.{renamings_compose}
use Rattle.lf_unification.specs.Filling.{moved, rename_value}
use Rattle.lf_unification.specs.Inversion.{IsPattern}
use Rattle.lf_unification.specs.Lists.{followed}
use Rattle.lf_unification.specs.Offering.{argument_equations, pi_over}
use Rattle.lf_unification.specs.OpenTyping.{set_at, under_locals}
use Rattle.lf_unification.specs.Patterns.{beyond, lambdas_of, local_skeletons, past, pattern, pattern_renaming}
use Rattle.lf_unification.specs.Pruning.{PrunedType, kept_renaming, pruned_store, pruned_type}
use Rattle.lf_unification.specs.Unifiers.{Binding, Equation, Side, Store, equation_on, on_left, on_right}
use Rattle.lf_unification.proofs.Agree.{set_here, set_cases}
use Rattle.lf_unification.proofs.Eta.{rename_id}
use Rattle.lf_unification.proofs.Patterns.{past_rename}
use Rattle.lf_unification.proofs.StepLemmas.{under_moved}
use Rattle.lf_numbered.specs.OwnTerms.{weaken_own}
use Rattle.lf_numbered.specs.TypedNumbered.{own_over}
use Rattle.lf_numbered.proofs.EntryPatternsFound.{renamed_twice as own_twice}
use Rattle.lf_numbered.proofs.OwnStoresTerms.{Owned, SpineOwned, TypeOwned, owned_unrenamed, pattern_owned, type_owned_renamed, type_owned_unrenamed}
use Rattle.lf_numbered.proofs.OwnTerms.{own_as_renamed, rename_own}
use Rattle.lf_numbered.proofs.OwnValues.{own_past}
use mathlib.Core.Path.{fun_ext}

-- own terms and values further in
rename_id_spine : (S : Spine) → rename_spine (λ i. i) S ≡ S
rename_id_spine nil = refl
rename_id_spine (app M S) = ap₂ app (rename_id M) (rename_id_spine S)

pub own_id : (u : Option Spine) → rename_own (λ i. i) u ≡ u
own_id None = refl
own_id (Some U) = ap Some (rename_id_spine U)

value_id : (x : Option Term) → rename_value (λ i. i) x ≡ x
value_id None = refl
value_id (Some N) = ap Some (rename_id N)

value_twice : (ρ τ : ℕ → ℕ) (x : Option Term) → rename_value ρ (rename_value τ x) ≡ rename_value (λ i. ρ (τ i)) x
value_twice ρ τ None = refl
value_twice ρ τ (Some N) = ap Some (renamings_compose ρ τ N)

pub own_over_is : (D : List LfType) (o : ℕ → Option Spine) (c : ℕ) → own_over D o c ≡ rename_own (beyond D) (o c)
own_over_is [] o c = sym (ap (λ ρ. rename_own ρ (o c)) (fun_ext (λ i. refl)) ∙ own_id (o c))
own_over_is (A ∷ D) o c = ap weaken_own (own_over_is D o c) ∙ own_as_renamed (rename_own (beyond D) (o c)) ∙ own_twice suc (beyond D) (o c) ∙ ap (λ ρ. rename_own ρ (o c)) (fun_ext (λ i. refl))

abbrev values_past : Skeleton → (ℕ → Option Term) → ℕ → Option Term
values_past (base c) β = β
values_past (arrow a b) β = values_past b (moved suc β)

own_past_is : (t : Skeleton) (o : ℕ → Option Spine) (c : ℕ) → own_past t o c ≡ rename_own (past t) (o c)
own_past_is (base b) o c = sym (ap (λ ρ. rename_own ρ (o c)) (fun_ext (λ i. refl)) ∙ own_id (o c))
own_past_is (arrow a b) o c = own_past_is b (λ d. weaken_own (o d)) c ∙ ap (rename_own (past b)) (own_as_renamed (o c)) ∙ own_twice (past b) suc (o c) ∙ ap (λ ρ. rename_own ρ (o c)) (fun_ext (λ i. refl))

values_past_is : (t : Skeleton) (β : ℕ → Option Term) (m : ℕ) → values_past t β m ≡ rename_value (past t) (β m)
values_past_is (base b) β m = sym (ap (λ ρ. rename_value ρ (β m)) (fun_ext (λ i. refl)) ∙ value_id (β m))
values_past_is (arrow a b) β m = values_past_is b (moved suc β) m ∙ value_twice (past b) suc (β m) ∙ ap (λ ρ. rename_value ρ (β m)) (fun_ext (λ i. refl))

-- One renaming after another.
own_through : (ρ τ π : ℕ → ℕ) (u : Option Spine) → ((i : ℕ) → ρ (τ i) ≡ π i) → rename_own π u ≡ rename_own ρ (rename_own τ u)
own_through ρ τ π u e = ap (λ f. rename_own f u) (sym (fun_ext e)) ∙ sym (own_twice ρ τ u)

value_through : (ρ τ π : ℕ → ℕ) (x : Option Term) → ((i : ℕ) → ρ (τ i) ≡ π i) → rename_value π x ≡ rename_value ρ (rename_value τ x)
value_through ρ τ π x e = ap (λ f. rename_value f x) (sym (fun_ext e)) ∙ sym (value_twice ρ τ x)

under_is : (D : List LfType) (β : ℕ → Option Term) (m : ℕ) → under_locals D β m ≡ rename_value (beyond D) (β m)
under_is D β m = ap (λ f. f m) (under_moved D β)

some_of : {X Y : LfType} → Some X ≡ Some Y → X ≡ Y
some_of e = cc

module _ (μ : ℕ → Skeleton) (o : ℕ → Option Spine) (β : ℕ → Option Term) where
  abbrev pub SidesOwned : List Equation → Type 0
  SidesOwned [] = Unit {0}
  SidesOwned (e ∷ es) = (Owned μ (own_over e.local o) (under_locals e.local β) e.left × Owned μ (own_over e.local o) (under_locals e.local β) e.right) × SidesOwned es

  pub record StoreOwned (s : Store) : Type 0 where
    pub bindings : (b : Binding) → Member b s.bindings → Owned μ o β b.value
    pub sides : SidesOwned s.equations
    pub types : (m : ℕ) (A : LfType) → s.metavariables m ≡ Some A → TypeOwned μ o β A

  pub sides_first : (es fs : List Equation) → SidesOwned (followed es fs) → SidesOwned es
  sides_first [] fs h = tt
  sides_first (e ∷ es) fs (x, h) = (x, sides_first es fs h)

  pub sides_second : (es fs : List Equation) → SidesOwned (followed es fs) → SidesOwned fs
  sides_second [] fs h = h
  sides_second (e ∷ es) fs (x, h) = sides_second es fs h

  pub sides_both : (es fs : List Equation) → SidesOwned es → SidesOwned fs → SidesOwned (followed es fs)
  sides_both [] fs h k = k
  sides_both (e ∷ es) fs (x, h) k = (x, sides_both es fs h k)

  pub arguments_owned : (D : List LfType) (A : LfType) (S T : Spine) → SpineOwned μ (own_over D o) (under_locals D β) S → SpineOwned μ (own_over D o) (under_locals D β) T → SidesOwned (argument_equations D A S T)
  arguments_owned D (pi A B) nil T s t = tt
  arguments_owned D (pi A B) (app M S) nil s t = tt
  arguments_owned D (pi A B) (app M S) (app N T) (m, s) (n, t) = ((m, n), arguments_owned D (instantiate_type A M B) S T s t)
  arguments_owned D (atom a I) S T s t = tt

  pub of_side : (side : Side) (D : List LfType) (M N : Term) (C : LfType) (es : List Equation) → SidesOwned (equation_on side D M N C ∷ es) → Owned μ (own_over D o) (under_locals D β) N × SidesOwned es
  of_side on_left D M N C es ((p, q), h) = (q, h)
  of_side on_right D M N C es ((q, p), h) = (q, h)

  under_lambdas : (t : Skeleton) (o1 : ℕ → Option Spine) (β1 : ℕ → Option Term) (B : Term) → Owned μ (own_past t o1) (values_past t β1) B → Owned μ o1 β1 (lambdas_of t B)
  under_lambdas (base c) o1 β1 B p = p
  under_lambdas (arrow a b) o1 β1 B p = under_lambdas b (λ c. weaken_own (o1 c)) (moved suc β1) B p

  -- the inversion of a side
  pub inverted : (D : List LfType) (t : Skeleton) (xs : List ℕ) (N W : Term) → IsPattern D t xs → rename (pattern_renaming t xs (beyond D)) W ≡ N → Owned μ (own_over D o) (under_locals D β) N → Owned μ o β (lambdas_of t W)
  inverted D t xs N W i r q =
      let ρ : ℕ → ℕ = pattern_renaming t xs (beyond D) in
      let through : (j : ℕ) → pattern_renaming t xs (beyond D) (past t j) ≡ beyond D j = λ j. past_rename (local_skeletons D []) t xs (beyond D) j (i.places []) in
      under_lambdas t o β W (owned_unrenamed μ (own_past t o) (own_over D o) (values_past t β) (under_locals D β) ρ W i.distinct
      (λ c. own_over_is D o c ∙ own_through ρ (past t) (beyond D) (o c) through ∙ ap (rename_own ρ) (sym (own_past_is t o c)))
      (λ m. under_is D β m ∙ value_through ρ (past t) (beyond D) (β m) through ∙ ap (rename_value ρ) (sym (values_past_is t β m)))
      (subst (Owned μ (own_over D o) (under_locals D β)) (sym r) q))

  -- types over a local context
  abbrev LocalsOwned : List LfType → Type 0
  LocalsOwned [] = Unit {0}
  LocalsOwned (A ∷ L) = LocalsOwned L × TypeOwned μ (own_over L o) (under_locals L β) A

  over_of : (L : List LfType) (P : LfType) → TypeOwned μ o β (pi_over L P) → LocalsOwned L × TypeOwned μ (own_over L o) (under_locals L β) P
  over_of [] P h = (tt, h)
  over_of (A ∷ L) P h = let (l, (a, p)) = over_of L (pi A P) h in ((l, a), p)

  over_from : (L : List LfType) (P : LfType) → LocalsOwned L → TypeOwned μ (own_over L o) (under_locals L β) P → TypeOwned μ o β (pi_over L P)
  over_from [] P l p = p
  over_from (A ∷ L) P (l, a) p = over_from L (pi A P) l (a, p)

  weakened : (L : List LfType) (B : LfType) → TypeOwned μ (own_over L o) (under_locals L β) B → TypeOwned μ (λ c. weaken_own (own_over L o c)) (moved suc (under_locals L β)) (weaken B)
  weakened L B b = type_owned_renamed μ (own_over L o) (λ c. weaken_own (own_over L o c)) (under_locals L β) (moved suc (under_locals L β)) suc B (λ c. own_as_renamed (own_over L o c)) (λ m. refl) b

  unweakened : (L : List LfType) (B : LfType) → TypeOwned μ (λ c. weaken_own (own_over L o c)) (moved suc (under_locals L β)) (weaken B) → TypeOwned μ (own_over L o) (under_locals L β) B
  unweakened L B b = type_owned_unrenamed μ (own_over L o) (λ c. weaken_own (own_over L o c)) (under_locals L β) (moved suc (under_locals L β)) suc B (λ i j e. cc) (λ c. own_as_renamed (own_over L o c)) (λ m. refl) b

  each_at : (L : List LfType) → LocalsOwned L → (i : ℕ) (Y : LfType) → TypeAt (onto L []) i Y → TypeOwned μ (own_over L o) (under_locals L β) Y
  each_at [] l i Y g = absurd g
  each_at (A ∷ L) (l, a) zero Y e = subst (TypeOwned μ (λ c. weaken_own (own_over L o c)) (moved suc (under_locals L β))) (sym e) (weakened L A a)
  each_at (A ∷ L) (l, a) (suc i) Y (B, g, e) = subst (TypeOwned μ (λ c. weaken_own (own_over L o c)) (moved suc (under_locals L β))) (sym e) (weakened L B (each_at L l i B g))

  each_from : (L : List LfType) → ((i : ℕ) (Y : LfType) → TypeAt (onto L []) i Y → TypeOwned μ (own_over L o) (under_locals L β) Y) → LocalsOwned L
  each_from [] h = tt
  each_from (A ∷ L) h = (each_from L (λ i B g. unweakened L B (h (suc i) (weaken B) (B, g, refl))), unweakened L A (h zero (weaken A) refl))

  pruned_owned : (Ψ : ℕ → Option LfType) (n dropped : ℕ) (p : PrunedType Ψ n dropped) → TypeOwned μ o β (pi_over p.local (atom p.family p.indices)) → TypeOwned μ o β (pi_over p.kept_local (atom p.family p.kept_indices))
  pruned_owned Ψ n dropped p h =
      let ρ : ℕ → ℕ = kept_renaming (pi_over p.local (atom p.family p.indices)) (pi_over p.kept_local (atom p.family p.kept_indices)) p.kept in
      let (l, a) = over_of p.local (atom p.family p.indices) h in
      let back : (Y : LfType) → TypeOwned μ (own_over p.local o) (under_locals p.local β) (rename_type ρ Y) → TypeOwned μ (own_over p.kept_local o) (under_locals p.kept_local β) Y = λ Y y. type_owned_unrenamed μ (own_over p.kept_local o) (own_over p.local o) (under_locals p.kept_local β) (under_locals p.local β) ρ Y p.distinct
      (λ c. own_over_is p.local o c ∙ own_through ρ (beyond p.kept_local) (beyond p.local) (o c) p.part.outer ∙ ap (rename_own ρ) (sym (own_over_is p.kept_local o c)))
      (λ m. under_is p.local β m ∙ value_through ρ (beyond p.kept_local) (beyond p.local) (β m) p.part.outer ∙ ap (rename_value ρ) (sym (under_is p.kept_local β m))) y in
      over_from p.kept_local (atom p.family p.kept_indices)
      (each_from p.kept_local (λ i Y g. back Y (each_at p.local l (ρ i) (rename_type ρ Y) (p.part.types i Y g))))
      (back (atom p.family p.kept_indices) (subst (TypeOwned μ (own_over p.local o) (under_locals p.local β)) p.same_target a))

  pub types_grow : (Ψ : ℕ → Option LfType) (n : ℕ) (X : LfType) → ((m : ℕ) (A : LfType) → Ψ m ≡ Some A → TypeOwned μ o β A) → TypeOwned μ o β X → (m : ℕ) (A : LfType) → set_at n (Some X) Ψ m ≡ Some A → TypeOwned μ o β A
  types_grow Ψ n X h x m A e = by (set_cases n (Some X) Ψ m)
    where
      by : (m ≡ n) ⊎ (set_at n (Some X) Ψ m ≡ Ψ m) → TypeOwned μ o β A
      by (inl q) = subst (TypeOwned μ o β) (some_of (sym (set_here n (Some X) Ψ) ∙ ap (set_at n (Some X) Ψ) (sym q) ∙ e)) x
      by (inr q) = h m A (sym q ∙ e)

  pub one_more : (bs : List Binding) (b : Binding) → ((c : Binding) → Member c bs → Owned μ o β c.value) → Owned μ o β b.value → (c : Binding) → Member c (b ∷ bs) → Owned μ o β c.value
  one_more bs b h v c (inl e) = subst (λ (x : Binding). Owned μ o β x.value) (sym e) v
  one_more bs b h v c (inr i) = h c i

  pub pruned_keeps : (s : Store) (n dropped : ℕ) (p : PrunedType s.metavariables n dropped) (n' : ℕ) → StoreOwned s → StoreOwned (pruned_store s n dropped p n')
  pruned_keeps s n dropped p n' h = record {
    bindings = one_more s.bindings (record { of = n; value = lambdas_of (skeleton (pi_over p.local (atom p.family p.indices))) (root (metavariable n') (pattern (skeleton (pi_over p.kept_local (atom p.family p.kept_indices))) p.kept)) }) h.bindings
        (let t : Skeleton = skeleton (pi_over p.local (atom p.family p.indices)) in under_lambdas t o β (root (metavariable n') (pattern (skeleton (pi_over p.kept_local (atom p.family p.kept_indices))) p.kept)) (pattern_owned μ (skeleton (pi_over p.kept_local (atom p.family p.kept_indices))) (own_past t o) (values_past t β) p.kept));
    sides = h.sides;
    types = types_grow s.metavariables n' (pruned_type p) h.types (pruned_owned s.metavariables n dropped p (h.types n (pi_over p.local (atom p.family p.indices)) p.declared));
  }
