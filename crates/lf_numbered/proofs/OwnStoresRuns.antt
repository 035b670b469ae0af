-- Runs of steps keep a store that a filling puts on own terms, where the filling respects the bindings that the run leads to.
use Rattle.std.proofs.Common.{◌≡◌, ℕ, suc, List, [], ◌∷◌, Option, Some, inl, inr, refl, sym, ap, ◌∙◌, subst}
use Rattle.lf.specs.Eta.{eta_long}
use Rattle.lf.specs.Skeletons.{family_skeletons}
use Rattle.lf.specs.SkeletonTyping.{TermSkeleton, TypeBySkeletons}
use Rattle.lf.specs.Subordination.{Member}
use Rattle.lf.specs.Syntax.{constant, variable, metavariable, Kind, kind_pi, star, Term, Spine, lambda, root, nil, app, LfType, pi, atom, Skeleton, base, skeleton, Head}
use Rattle.lf.specs.Typing.{IsSignature, Signature, instantiate_kind, instantiate_type}
use Rattle.lf_unification.specs.Filling.{fill, moved}
use Rattle.lf_unification.specs.Offering.{argument_equations}
use Rattle.lf_unification.specs.OpenTyping.{OpenHasType, OpenIsType, OpenSpineFitsKind, OpenSpineType, skeletons_of, under_locals}
use Rattle.lf_unification.specs.PartialInstance.{IsFilling}
use Rattle.lf_unification.specs.Patterns.{lambdas_of, local_skeletons}
use Rattle.lf_unification.specs.Putting.{PutsInType, PutsSome, binders, put_in_atom, put_in_pi}
use Rattle.lf_unification.specs.Skeletons.{as_head_skeletons, skeleton_or_default, total_skeletons}
use Rattle.lf_unification.specs.Solving.{IsWellFormed}
use Rattle.lf_unification.specs.Steps.{Step, next_equation, put_bindings, drop_equal, open_lambdas, equal_heads, bind, on_pattern, prune_inside, prune_both, renew, Run, no_step, store_at, then_run}
use Rattle.lf_unification.specs.Unifiers.{Binding, Respects, Store, equation_on, on_left}
use Rattle.lf_unification.proofs.Eta.{rename_id}
use Rattle.lf_unification.proofs.Filling.{SkeletonsFill}
use Rattle.lf_unification.proofs.Generic.{open_skeletons, open_skeletons_type}
use Rattle.lf_unification.proofs.Putting.{put_some_spine, ready_at, typed_at}
use Rattle.lf_unification.proofs.Runs.{step_form}
use Rattle.lf_unification.proofs.Steps.{step_keeps_unifiers}
use Rattle.lf_numbered.specs.OwnTerms.{weaken_own}
use Rattle.lf_numbered.specs.TypedNumbered.{own_over}
use Rattle.lf_numbered.proofs.OwnStoresPutting.{OwnedReady, owned_under, puts_grow, puts_grow_spine, some_owned, some_owned_spine}
use Rattle.lf_numbered.proofs.OwnStoresSteps.{StoreOwned, arguments_owned, inverted, of_side, one_more, pruned_keeps, sides_both, sides_first, sides_second, types_grow}
use Rattle.lf_numbered.proofs.OwnStoresTerms.{Owned, SpineOwned, TypeOwned, expand_owned}

-- typing where more is declared, and up to no filling
module _ (Σ : Signature) (Ψ Φ : ℕ → Option LfType) (U : (ℕ → Option Term) → Type 0) (grows : (m : ℕ) (A : LfType) → Ψ m ≡ Some A → Φ m ≡ Some A) where
  mutual
    term_more : (D : List LfType) (M : Term) (A : LfType) → OpenHasType Σ [] Ψ U D M A → OpenHasType Σ [] Φ (λ β. ⊥) D M A
    term_more D (lambda M) (pi A B) m = term_more (A ∷ D) M B m
    term_more D (lambda M) (atom a T) m = m
    term_more D (root h S) (pi A B) m = m
    term_more D (root (constant c) S) (atom a T) (A, g, s) = (A, g, spine_more D S A (atom a T) s)
    term_more D (root (variable i) S) (atom a T) (A, g, s) = (A, g, spine_more D S A (atom a T) s)
    term_more D (root (metavariable m) S) (atom a T) (A, (B, g, e), s) = (A, (B, grows m B g, e), spine_more D S A (atom a T) s)

    spine_more : (D : List LfType) (S : Spine) (A C : LfType) → OpenSpineType Σ [] Ψ U D S A C → OpenSpineType Σ [] Φ (λ β. ⊥) D S A C
    spine_more D nil A C e = (e.0, λ β u. absurd u)
    spine_more D (app M S) (pi A B) C (m, s) = (term_more D M A m, spine_more D S (instantiate_type A M B) C s)
    spine_more D (app M S) (atom a T) C s = s

  kind_more : (D : List LfType) (S : Spine) (K : Kind) → OpenSpineFitsKind Σ [] Ψ U D S K → OpenSpineFitsKind Σ [] Φ (λ β. ⊥) D S K
  kind_more D nil (kind_pi A K) s = s
  kind_more D nil star s = s
  kind_more D (app M S) (kind_pi A K) (m, s) = (term_more D M A m, kind_more D S (instantiate_kind A M K) s)
  kind_more D (app M S) star s = s

  type_more : (D : List LfType) (A : LfType) → OpenIsType Σ [] Ψ U D A → OpenIsType Σ [] Φ (λ β. ⊥) D A
  type_more D (pi A B) (a, b) = (type_more D A a, type_more (A ∷ D) B b)
  type_more D (atom a S) (K, e, s) = (K, e, kind_more D S K s)

  pub term_skeletons : IsSignature Σ → (D : List LfType) (Γ : List Skeleton) (M : Term) (A : LfType) → OpenHasType Σ [] Ψ U D M A → TermSkeleton (as_head_skeletons (total_skeletons Σ (skeletons_of Φ))) (local_skeletons D Γ) M (skeleton A)
  term_skeletons ok D Γ M A m = open_skeletons Σ (skeletons_of Φ) ok Φ (λ β. ⊥) D Γ M A (term_more D M A m)

  pub type_skeletons : IsSignature Σ → (D : List LfType) (Γ : List Skeleton) (A : LfType) → OpenIsType Σ [] Ψ U D A → TypeBySkeletons (family_skeletons Σ) (as_head_skeletons (total_skeletons Σ (skeletons_of Φ))) (local_skeletons D Γ) A
  type_skeletons ok D Γ A a = open_skeletons_type Σ (skeletons_of Φ) ok Φ (λ β. ⊥) D Γ A (type_more D A a)

respects_from : (μ : ℕ → Skeleton) (β : ℕ → Option Term) (bs : List Binding) → ((b : Binding) → Member b bs → β b.of ≡ Some (fill μ β b.value)) → Respects μ β bs
respects_from μ β [] h = tt
respects_from μ β (b ∷ bs) h = (h b (inl refl), respects_from μ β bs (λ c i. h c (inr i)))

-- A step binds more.
pub step_binds : {Σ : Signature} {s s' : Store} → Step Σ s s' → (b : Binding) → Member b s.bindings → Member b s'.bindings
step_binds (next_equation es e fs) b i = i
step_binds (put_bindings p q) b i = i
step_binds drop_equal b i = i
step_binds open_lambdas b i = i
step_binds (equal_heads h A r t) b i = i
step_binds (bind side D m xs N C e u p c) b i = inr i
step_binds (prune_inside side D m xs N C e i p u n sc) b j = inr j
step_binds (prune_both side D m xs N C e i p u n sc) b j = inr j
step_binds (renew m A A' e u o p n sc) b i = inr i

module _ (Σ : Signature) (ok : IsSignature Σ) (Φ : ℕ → Option LfType) (o : ℕ → Option Spine) (β : ℕ → Option Term) (Δ : List Skeleton) (values : SkeletonsFill (total_skeletons Σ (skeletons_of Φ)) Δ β) where
  abbrev μ : ℕ → Skeleton
  μ = skeletons_of Φ

  -- the store's declarations and bindings are among those of the store that the run leads to
  pub record Before (s : Store) : Type 0 where
    pub grows : (m : ℕ) (A : LfType) → s.metavariables m ≡ Some A → Φ m ≡ Some A
    pub respected : (b : Binding) → Member b s.bindings → β b.of ≡ Some (fill (skeletons_of Φ) β b.value)
    pub skeletons : (b : Binding) → Member b s.bindings → TermSkeleton (as_head_skeletons (total_skeletons Σ (skeletons_of Φ))) Δ b.value (skeletons_of Φ b.of)
    pub declared : (b : Binding) → Member b s.bindings → (A : LfType) × (s.metavariables b.of ≡ Some A)

  same_skeletons : (s : Store) → Before s → (b : Binding) → Member b s.bindings → skeletons_of s.metavariables b.of ≡ skeletons_of Φ b.of
  same_skeletons s w b i = let (A, e) = w.declared b i in ap skeleton_or_default e ∙ sym (ap skeleton_or_default (w.grows b.of A e))

  ready : (s : Store) → Before s → StoreOwned (skeletons_of Φ) o β s → (D : List LfType) → OwnedReady Σ Φ s.bindings (binders D) (own_over D o) (under_locals D β) (local_skeletons D Δ)
  ready s w h [] = record { ready = ready_at Σ Φ s.bindings [] β Δ values (respects_from (skeletons_of Φ) β s.bindings w.respected) w.skeletons; owned = λ b i. subst (Owned (skeletons_of Φ) o β) (sym (rename_id b.value)) (h.bindings b i) }
  ready s w h (A ∷ D) = owned_under Σ Φ s.bindings (binders D) (own_over D o) (under_locals D β) (local_skeletons D Δ) (skeleton A) (ready s w h D)

  put_type : (s : Store) → Before s → {k : ℕ} {A A' : LfType} → PutsInType s.metavariables s.bindings k A A' → (o1 : ℕ → Option Spine) (β1 : ℕ → Option Term) (Δ1 : List Skeleton) → OwnedReady Σ Φ s.bindings k o1 β1 Δ1 → TypeBySkeletons (family_skeletons Σ) (as_head_skeletons (total_skeletons Σ (skeletons_of Φ))) Δ1 A → TypeOwned (skeletons_of Φ) o1 β1 A → TypeOwned (skeletons_of Φ) o1 β1 A'
  put_type s w (put_in_atom {a = a} d) o1 β1 Δ1 r (t, g, q) p = some_owned_spine Σ Φ s.bindings (puts_grow_spine s.metavariables Φ s.bindings s.bindings (λ b i. (i, same_skeletons s w b i)) (put_some_spine d)) o1 β1 Δ1 t (base a) r q p
  put_type s w {k = k} (put_in_pi {A = A} d e) o1 β1 Δ1 r (a, b) (p, q) = (put_type s w d o1 β1 Δ1 r a p, put_type s w e (λ c. weaken_own (o1 c)) (moved suc β1) (skeleton A ∷ Δ1) (owned_under Σ Φ s.bindings k o1 β1 Δ1 (skeleton A) r) b q)

  spine_of : (o1 : ℕ → Option Spine) (β1 : ℕ → Option Term) (h : Head) (S : Spine) → Owned (skeletons_of Φ) o1 β1 (root h S) → SpineOwned (skeletons_of Φ) o1 β1 S
  spine_of o1 β1 (constant c) S (b, s) = s
  spine_of o1 β1 (variable i) S s = s
  spine_of o1 β1 (metavariable m) S s = s

  step_owned : {s s' : Store} → IsWellFormed Σ s → Before s → Step Σ s s' → StoreOwned (skeletons_of Φ) o β s → StoreOwned (skeletons_of Φ) o β s'
  step_owned f w (next_equation {Ψ = Ψ} es e fs) h = let (x, r) = sides_second μ o β es (e ∷ fs) h.sides in record { bindings = h.bindings; sides = (x, sides_both μ o β es fs (sides_first μ o β es (e ∷ fs) h.sides) r); types = h.types }
  step_owned f w (put_bindings {Ψ = Ψ} {bs = bs} {es = es} {D = D} {M = M} {M' = M'} {N = N} {N' = N'} {C = C} p q) h =
      let s : Store = store_at on_left Ψ bs es D M N C in
      let ((m, n), r) = h.sides in
      let e = f.typed.equations_typed.0 in
      let put : (Y Y' : Term) → PutsSome Ψ bs (binders D) Y Y' → OpenHasType Σ [] Ψ (IsFilling Σ [] s) D Y C → Owned (skeletons_of Φ) (own_over D o) (under_locals D β) Y → Owned (skeletons_of Φ) (own_over D o) (under_locals D β) Y' = λ Y Y' z t y. some_owned Σ Φ bs (puts_grow Ψ Φ bs bs (λ b i. (i, same_skeletons s w b i)) z) (own_over D o) (under_locals D β) (local_skeletons D Δ) (skeleton C) (ready s w h D) (term_skeletons Σ Ψ Φ (IsFilling Σ [] s) w.grows ok D Δ Y C t) y in
      record { bindings = h.bindings; sides = ((put M M' p e.left_typed m, put N N' q e.right_typed n), r); types = h.types }
  step_owned f w drop_equal h = let (x, r) = h.sides in record { bindings = h.bindings; sides = r; types = h.types }
  step_owned f w open_lambdas h = let (x, r) = h.sides in record { bindings = h.bindings; sides = (x, r); types = h.types }
  step_owned f w (equal_heads {Ψ = Ψ} {es = es} {D = D} {S = S} {T = T} {a = a} g A r t) h = let ((m, n), k) = h.sides in record { bindings = h.bindings; sides = sides_both μ o β (argument_equations D A S T) es (arguments_owned μ o β D A S T (spine_of (own_over D o) (under_locals D β) g S m) (spine_of (own_over D o) (under_locals D β) g T n)) k; types = h.types }
  step_owned f w (bind {Ψ = Ψ} {bs = bs} {es = es} {A = A} side D m xs N C e u p b) h =
      let (n, r) = of_side μ o β side D (on_pattern Ψ m xs) N C es h.sides in
      record { bindings = one_more μ o β bs (record { of = m; value = lambdas_of (skeletons_of Ψ m) b.inverted.inversion }) h.bindings (inverted μ o β D (skeletons_of Ψ m) xs N b.inverted.inversion p b.inverted.is n); sides = r; types = h.types }
  step_owned f w (prune_inside {Ψ = Ψ} {bs = bs} {es = es} side D m xs N C e i p u n sc) h = pruned_keeps μ o β (record { metavariables = Ψ; bindings = bs; equations = equation_on side D (on_pattern Ψ m xs) N C ∷ es }) p.drop.m p.dropped p.pruned n h
  step_owned f w (prune_both {Ψ = Ψ} {bs = bs} {es = es} side D m xs N C e i p u n sc) h = pruned_keeps μ o β (record { metavariables = Ψ; bindings = bs; equations = equation_on side D (on_pattern Ψ m xs) N C ∷ es }) m p.dropped p.pruned n h
  step_owned f w (renew {Ψ = Ψ} {bs = bs} {es = es} m A A' e u v p n sc) h =
      let s : Store = record { metavariables = Ψ; bindings = bs; equations = es } in
      record {
        bindings = one_more μ o β bs (record { of = m; value = eta_long (skeleton A) (metavariable n) }) h.bindings (expand_owned μ (skeleton A) o β (metavariable n) nil tt tt);
        sides = h.sides;
        types = types_grow μ o β Ψ n A' h.types (put_type s w p o β Δ (ready s w h []) (type_skeletons Σ Ψ Φ (IsFilling Σ [] s) w.grows ok [] Δ A (f.typed.declarations_typed.metavariables_typed m A e)) (h.types m A e));
      }

  -- what comes before
  step_before : {s s' : Store} → IsWellFormed Σ s → Step Σ s s' → Before s' → Before s
  step_before {s = s} f p w = record {
    grows = λ m A e. w.grows m A ((step_keeps_unifiers Σ ok f.typed p).grows m A e);
    respected = λ b i. w.respected b (step_binds p b i);
    skeletons = λ b i. w.skeletons b (step_binds p b i);
    declared = λ b i. let (A, e, t) = typed_at Σ [] s.metavariables (IsFilling Σ [] s) s.bindings f.typed.bindings_typed b i in (A, e);
  }

  run_before : {s s' : Store} → IsWellFormed Σ s → Run Σ s s' → Before s' → Before s
  run_before f no_step w = w
  run_before f (then_run p r) w = step_before f p (run_before (step_form Σ ok f p) r w)

  -- THE lemma on runs
  pub run_owned : {s s' : Store} → IsWellFormed Σ s → Run Σ s s' → Before s' → StoreOwned (skeletons_of Φ) o β s → StoreOwned (skeletons_of Φ) o β s'
  run_owned f no_step w h = h
  run_owned f (then_run p r) w h = run_owned (step_form Σ ok f p) r w (step_owned f (run_before f (then_run p r) w) p h)
