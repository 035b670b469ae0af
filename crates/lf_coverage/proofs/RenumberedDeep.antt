-- Equations that are deep are so under other numbers.
use Rattle.std.proofs.Common.{◌≡◌, ℕ, suc, ◌<◌, ◌⊎◌, List, [], ◌∷◌, inl, inr, refl, sym, ap, ap₂, subst}
use Rattle.std.specs.Prelude.{Option, max}
use Rattle.lf.specs.Deep.{DeepStep, HasDeep, ReductionHasDeep, SpineHasDeep}
use Rattle.lf.specs.Depth.{depth, spine_depth, type_depth}
use Rattle.lf.specs.Rules.{Substitutes, SubstitutesSpine, Reduces, inside_lambda, at_constant, at_metavariable, at_keep, at_put, none, more, stop, beta}
use Rattle.lf.specs.Subordination.{Member}
use Rattle.lf.specs.Substitution.{Image, lift}
use Rattle.lf.specs.Syntax.{constant, variable, metavariable, Term, Spine, lambda, root, nil, app, LfType, pi, atom, Skeleton, rename}
use Rattle.lf.specs.Typing.{Signature, IsSignature}
use Rattle.lf_unification.specs.DeepEquations.{AreDeep, EquationsReach, IsDeepContext, IsDeepEquation, IsDeepSpine, IsDeepStore, IsDeepTerm, IsDeepType, IsDeepWhole, PutHasDeep, PutSpineHasDeep, deep_equation, deep_type, deep_value, from_left, from_right}
use Rattle.lf_unification.specs.OpenTyping.{skeletons_of}
use Rattle.lf_unification.specs.Putting.{PutsIn, PutsInSpine, binders, put_at_bound, put_at_rigid, put_at_unbound, put_in_argument, put_nowhere, put_under_lambda}
use Rattle.lf_unification.specs.Rigid.{past_binders}
use Rattle.lf_unification.specs.Unifiers.{Binding, Equation, Store}
use Rattle.lf_coverage.specs.Renumbering.{Renumbering, undone, renumbered_head, renumbered, renumbered_spine, renumbered_type, renumbered_locals, renumbered_equation, renumbered_equations, renumbered_binding, renumbered_bindings, renumbered_types, renumbered_store}
use Rattle.lf_coverage.specs.RenumberingLaws.{DeepUnderNumbers}
use Rattle.lf_coverage.proofs.RenumberedBack.{declared_at, returned_store, skeleton_at}
use Rattle.lf_coverage.proofs.RenumberedLeft.{reached}
use Rattle.lf_coverage.proofs.RenumberedRules.{binders_same, binding_in, puts_in, puts_in_spine, puts_in_type, reduces, rigid_head, substitutes, substitutes_spine, unbound, value_reduces}
use Rattle.lf_coverage.proofs.RenumberedRuns.{run_under}
use Rattle.lf_coverage.proofs.RenumberedStores.{member_of}
use Rattle.lf_coverage.proofs.RenumberedSyntax.{image_lifted, image_single, renamed, renumbered_image}
use mathlib.Core.Path.{fun_ext}

module _ (f : ℕ → ℕ) where
  mutual
    depth_same : (M : Term) → depth (renumbered f M) ≡ depth M
    depth_same (lambda M) = ap suc (depth_same M)
    depth_same (root h S) = ap suc (spine_depth_same S)

    spine_depth_same : (S : Spine) → spine_depth (renumbered_spine f S) ≡ spine_depth S
    spine_depth_same nil = refl
    spine_depth_same (app M S) = ap₂ max (depth_same M) (spine_depth_same S)

  type_depth_same : (A : LfType) → type_depth (renumbered_type f A) ≡ type_depth A
  type_depth_same (pi A B) = ap suc (ap₂ max (type_depth_same A) (type_depth_same B))
  type_depth_same (atom a S) = ap suc (spine_depth_same S)

  module _ (limit : ℕ) where
    deep_term : (M : Term) → limit < depth M → limit < depth (renumbered f M)
    deep_term M l = subst (λ n. limit < n) (sym (depth_same M)) l

    deep_as_type : (A : LfType) → limit < type_depth A → limit < type_depth (renumbered_type f A)
    deep_as_type A l = subst (λ n. limit < n) (sym (type_depth_same A)) l

    -- a judgement that is deep itself, or has one above
    step_deep : {X above : Type 0} (P : X → Type 0) (x : X) → (above → (y : X) × P y) → (σ : ℕ → Image) (M M' : Term) → DeepStep limit σ M M' above → (y : X) × DeepStep limit (λ i. renumbered_image f (σ i)) (renumbered f M) (renumbered f M') (P y)
    step_deep P x up σ M M' (inl l) = (x, inl (deep_term M l))
    step_deep P x up σ M M' (inr (inl l)) = (x, inr (inl (deep_term M' l)))
    step_deep P x up σ M M' (inr (inr (inl (i, a, N, e, l)))) = (x, inr (inr (inl (i, a, renumbered f N, ap (renumbered_image f) e, deep_term N l))))
    step_deep P x up σ M M' (inr (inr (inr h))) = let (y, p) = up h in (y, inr (inr (inr p)))

    -- one of two parts is deep
    both_deep : {X Y A B : Type 0} (P : X → Type 0) (Q : Y → Type 0) → X → Y → (A → (x : X) × P x) → (B → (y : Y) × Q y) → A ⊎ B → (z : X × Y) × (P z.0 ⊎ Q z.1)
    both_deep P Q x y g h (inl a) = let (u, p) = g a in ((u, y), inl p)
    both_deep P Q x y g h (inr b) = let (v, q) = h b in ((x, v), inr q)

    mutual
      has_deep : {σ : ℕ → Image} {M M' : Term} (d : Substitutes σ M M') → HasDeep limit d → (e : Substitutes (λ i. renumbered_image f (σ i)) (renumbered f M) (renumbered f M')) × HasDeep limit e
      has_deep (inside_lambda {σ = σ} {M = M} {M' = M'} d) h =
          let T : (ℕ → Image) → Type 0 = λ τ. Substitutes τ (renumbered f M) (renumbered f M') in
          let (e, k) = step_deep {X = T (lift (λ j. renumbered_image f (σ j)))} (λ e. HasDeep limit e) (subst T (fun_ext (image_lifted f σ)) (substitutes f d)) (λ k. subst (λ τ. (e : Substitutes τ (renumbered f M) (renumbered f M')) × HasDeep limit e) (fun_ext (image_lifted f σ)) (has_deep d k)) σ (lambda M) (lambda M') h in
          (inside_lambda e, k)
      has_deep (at_constant {σ = σ} {c = c} {S = S} {S' = S'} d) h = let (e, k) = step_deep {X = SubstitutesSpine (λ i. renumbered_image f (σ i)) (renumbered_spine f S) (renumbered_spine f S')} (λ e. SpineHasDeep limit e) (substitutes_spine f d) (λ k. spine_has_deep d k) σ (root (constant c) S) (root (constant c) S') h in (at_constant e, k)
      has_deep (at_metavariable {σ = σ} {m = m} {S = S} {S' = S'} d) h = let (e, k) = step_deep {X = SubstitutesSpine (λ i. renumbered_image f (σ i)) (renumbered_spine f S) (renumbered_spine f S')} (λ e. SpineHasDeep limit e) (substitutes_spine f d) (λ k. spine_has_deep d k) σ (root (metavariable m) S) (root (metavariable m) S') h in (at_metavariable e, k)
      has_deep (at_keep {σ = σ} {i = i} {j = j} {S = S} {S' = S'} q d) h = let (e, k) = step_deep {X = SubstitutesSpine (λ i. renumbered_image f (σ i)) (renumbered_spine f S) (renumbered_spine f S')} (λ e. SpineHasDeep limit e) (substitutes_spine f d) (λ k. spine_has_deep d k) σ (root (variable i) S) (root (variable j) S') h in (at_keep (ap (renumbered_image f) q) e, k)
      has_deep (at_put {σ = σ} {i = i} {a = a} {N = N} {M' = M'} {S = S} {S' = S'} q d r) h =
          let X : Type 0 = SubstitutesSpine (λ i. renumbered_image f (σ i)) (renumbered_spine f S) (renumbered_spine f S') in
          let Y : Type 0 = Reduces a (renumbered f N) (renumbered_spine f S') (renumbered f M') in
          let (y, k) = step_deep {X = X × Y} (λ y. SpineHasDeep limit y.0 ⊎ ReductionHasDeep limit y.1) (substitutes_spine f d, reduces f r) (λ k. both_deep {X = X} {Y = Y} (λ e. SpineHasDeep limit e) (λ e. ReductionHasDeep limit e) (substitutes_spine f d) (reduces f r) (λ l. spine_has_deep d l) (λ l. reduction_has_deep r l) k) σ (root (variable i) S) M' h in
          (at_put (ap (renumbered_image f) q) y.0 y.1, k)

      spine_has_deep : {σ : ℕ → Image} {S S' : Spine} (d : SubstitutesSpine σ S S') → SpineHasDeep limit d → (e : SubstitutesSpine (λ i. renumbered_image f (σ i)) (renumbered_spine f S) (renumbered_spine f S')) × SpineHasDeep limit e
      spine_has_deep none h = absurd h
      spine_has_deep (more d e) (inl h) = let (x, k) = has_deep d h in (more x (substitutes_spine f e), inl k)
      spine_has_deep (more d e) (inr h) = let (x, k) = spine_has_deep e h in (more (substitutes f d) x, inr k)

      pub reduction_has_deep : {a : Skeleton} {N R : Term} {S : Spine} (d : Reduces a N S R) → ReductionHasDeep limit d → (e : Reduces a (renumbered f N) (renumbered_spine f S) (renumbered f R)) × ReductionHasDeep limit e
      reduction_has_deep (stop {h = k} {S = S}) l = (stop, deep_term (root k S) l)
      reduction_has_deep (beta {a = a} {M = M} {M' = M'} {N = N} d r) (inl l) = (beta (subst (λ τ. Substitutes τ (renumbered f M) (renumbered f M')) (fun_ext (image_single f a N)) (substitutes f d)) (reduces f r), inl (deep_term (lambda M) l))
      reduction_has_deep (beta {a = a} {M = M} {M' = M'} {N = N} d r) (inr (inl l)) = (beta (subst (λ τ. Substitutes τ (renumbered f M) (renumbered f M')) (fun_ext (image_single f a N)) (substitutes f d)) (reduces f r), inr (inl (deep_term N l)))
      reduction_has_deep (beta {a = a} {M = M} {M' = M'} {N = N} {R = R} d r) (inr (inr (inl l))) = (beta (subst (λ τ. Substitutes τ (renumbered f M) (renumbered f M')) (fun_ext (image_single f a N)) (substitutes f d)) (reduces f r), inr (inr (inl (deep_term R l))))
      reduction_has_deep (beta {a = a} {M = M} {M' = M'} {N = N} d r) (inr (inr (inr (inl h)))) = let (e, k) = subst (λ τ. (e : Substitutes τ (renumbered f M) (renumbered f M')) × HasDeep limit e) (fun_ext (image_single f a N)) (has_deep d h) in (beta e (reduces f r), inr (inr (inr (inl k))))
      reduction_has_deep (beta {a = a} {M = M} {M' = M'} {N = N} d r) (inr (inr (inr (inr h)))) = let (e, k) = reduction_has_deep r h in (beta (subst (λ τ. Substitutes τ (renumbered f M) (renumbered f M')) (fun_ext (image_single f a N)) (substitutes f d)) e, inr (inr (inr (inr k))))

module _ (π : Renumbering) (s : Store) (limit : ℕ) where
  abbrev Φ : ℕ → Option LfType
  Φ = renumbered_types π s.metavariables

  abbrev cs : List Binding
  cs = renumbered_bindings π.to s.bindings

  value_deep : (k : ℕ) (b : Binding) (S : Spine) (R : Term) (r : Reduces (skeletons_of s.metavariables b.of) (rename (past_binders k) b.value) S R) → ReductionHasDeep limit r → (e : Reduces (skeletons_of Φ (π.to b.of)) (rename (past_binders k) (renumbered π.to b.value)) (renumbered_spine π.to S) (renumbered π.to R)) × ReductionHasDeep limit e
  value_deep k b S R r h =
      subst (λ N. (e : Reduces (skeletons_of Φ (π.to b.of)) N (renumbered_spine π.to S) (renumbered π.to R)) × ReductionHasDeep limit e) (renamed π.to (past_binders k) b.value)
      (subst (λ a. (e : Reduces a (renumbered π.to (rename (past_binders k) b.value)) (renumbered_spine π.to S) (renumbered π.to R)) × ReductionHasDeep limit e) (sym (skeleton_at π s.metavariables b.of)) (reduction_has_deep π.to limit r h))

  mutual
    put_deep : {k : ℕ} {M M' : Term} (d : PutsIn s.metavariables s.bindings k M M') → PutHasDeep s limit d → (e : PutsIn Φ cs k (renumbered π.to M) (renumbered π.to M')) × PutHasDeep (renumbered_store π s) limit e
    put_deep (put_under_lambda {M' = M'} d) (inl l) = (put_under_lambda (puts_in π s.metavariables s.bindings d), inl (deep_term π.to limit (lambda M') l))
    put_deep (put_under_lambda d) (inr h) = let (e, k) = put_deep d h in (put_under_lambda e, inr k)
    put_deep (put_at_rigid {S' = S'} h r d) (inl l) = (put_at_rigid (renumbered_head π.to h) (rigid_head π.to h r) (puts_in_spine π s.metavariables s.bindings d), inl (deep_term π.to limit (root h S') l))
    put_deep (put_at_rigid h r d) (inr x) = let (e, k) = put_spine_deep d x in (put_at_rigid (renumbered_head π.to h) (rigid_head π.to h r) e, inr k)
    put_deep (put_at_unbound {m = m} {S' = S'} u d) (inl l) = (put_at_unbound (unbound π s.bindings m u) (puts_in_spine π s.metavariables s.bindings d), inl (deep_term π.to limit (root (metavariable m) S') l))
    put_deep (put_at_unbound {m = m} u d) (inr x) = let (e, k) = put_spine_deep d x in (put_at_unbound (unbound π s.bindings m u) e, inr k)
    put_deep (put_at_bound {k = k} {S' = S'} {R = R} b i d r e) (inl x) = let (y, z) = put_spine_deep d x in (put_at_bound (renumbered_binding π.to b) (binding_in π b s.bindings i) y (value_reduces π s.metavariables s.bindings k b S' R r) (puts_in π s.metavariables s.bindings e), inl z)
    put_deep (put_at_bound {k = k} {S' = S'} {R = R} b i d r e) (inr (inl x)) = let (y, z) = value_deep k b S' R r x in (put_at_bound (renumbered_binding π.to b) (binding_in π b s.bindings i) (puts_in_spine π s.metavariables s.bindings d) y (puts_in π s.metavariables s.bindings e), inr (inl z))
    put_deep (put_at_bound {k = k} {S' = S'} {R = R} b i d r e) (inr (inr x)) = let (y, z) = put_deep e x in (put_at_bound (renumbered_binding π.to b) (binding_in π b s.bindings i) (puts_in_spine π s.metavariables s.bindings d) (value_reduces π s.metavariables s.bindings k b S' R r) y, inr (inr z))

    put_spine_deep : {k : ℕ} {S S' : Spine} (d : PutsInSpine s.metavariables s.bindings k S S') → PutSpineHasDeep s limit d → (e : PutsInSpine Φ cs k (renumbered_spine π.to S) (renumbered_spine π.to S')) × PutSpineHasDeep (renumbered_store π s) limit e
    put_spine_deep put_nowhere h = absurd h
    put_spine_deep (put_in_argument d e) (inl h) = let (x, k) = put_deep d h in (put_in_argument x (puts_in_spine π s.metavariables s.bindings e), inl k)
    put_spine_deep (put_in_argument d e) (inr h) = let (x, k) = put_spine_deep e h in (put_in_argument (puts_in π s.metavariables s.bindings d) x, inr k)

  term_deep : (k : ℕ) (M : Term) → IsDeepTerm s limit k M → IsDeepTerm (renumbered_store π s) limit k (renumbered π.to M)
  term_deep k M (inl l) = inl (deep_term π.to limit M l)
  term_deep k M (inr (M', d, h)) = let (e, x) = put_deep d h in inr (renumbered π.to M', e, x)

  spine_deep : (k : ℕ) (S : Spine) → IsDeepSpine s limit k S → IsDeepSpine (renumbered_store π s) limit k (renumbered_spine π.to S)
  spine_deep k nil h = h
  spine_deep k (app M S) (inl h) = inl (term_deep k M h)
  spine_deep k (app M S) (inr h) = inr (spine_deep k S h)

  whole_deep : (k : ℕ) (A : LfType) → IsDeepWhole s limit k A → IsDeepWhole (renumbered_store π s) limit k (renumbered_type π.to A)
  whole_deep k A (inl l) = inl (deep_as_type π.to limit A l)
  whole_deep k A (inr (A', d, l)) = inr (renumbered_type π.to A', puts_in_type π s.metavariables s.bindings d, deep_as_type π.to limit A' l)

  type_deep : (k : ℕ) (A : LfType) → IsDeepType s limit k A → IsDeepType (renumbered_store π s) limit k (renumbered_type π.to A)
  type_deep k (pi A B) (inl h) = inl (whole_deep k (pi A B) h)
  type_deep k (pi A B) (inr (inl h)) = inr (inl (type_deep k A h))
  type_deep k (pi A B) (inr (inr h)) = inr (inr (type_deep (suc k) B h))
  type_deep k (atom a S) (inl h) = inl (whole_deep k (atom a S) h)
  type_deep k (atom a S) (inr h) = inr (spine_deep k S h)

  context_deep : (D : List LfType) → IsDeepContext s limit D → IsDeepContext (renumbered_store π s) limit (renumbered_locals π.to D)
  context_deep [] h = h
  context_deep (A ∷ D) (inl h) = inl (subst (λ k. IsDeepType (renumbered_store π s) limit k (renumbered_type π.to A)) (sym (binders_same π.to D)) (type_deep (binders D) A h))
  context_deep (A ∷ D) (inr h) = inr (context_deep D h)

  equation_deep : (e : Equation) → IsDeepEquation s limit e → IsDeepEquation (renumbered_store π s) limit (renumbered_equation π.to e)
  equation_deep e (inl h) = inl (subst (λ k. IsDeepTerm (renumbered_store π s) limit k (renumbered π.to e.left)) (sym (binders_same π.to e.local)) (term_deep (binders e.local) e.left h))
  equation_deep e (inr (inl h)) = inr (inl (subst (λ k. IsDeepTerm (renumbered_store π s) limit k (renumbered π.to e.right)) (sym (binders_same π.to e.local)) (term_deep (binders e.local) e.right h)))
  equation_deep e (inr (inr (inl h))) = inr (inr (inl (subst (λ k. IsDeepType (renumbered_store π s) limit k (renumbered_type π.to e.of_type)) (sym (binders_same π.to e.local)) (type_deep (binders e.local) e.of_type h))))
  equation_deep e (inr (inr (inr h))) = inr (inr (inr (context_deep e.local h)))

  equation_in : (e : Equation) → Member e s.equations → Member (renumbered_equation π.to e) (renumbered_equations π.to s.equations)
  equation_in e i = member_of (renumbered_equation π.to) (renumbered_equations π.to) (λ x xs. refl) e s.equations i

  reach : (m : ℕ) → EquationsReach s m → EquationsReach (renumbered_store π s) (π.to m)
  reach m (from_left e i r) = from_left (renumbered_equation π.to e) (equation_in e i) (reached π s.metavariables s.bindings r)
  reach m (from_right e i r) = from_right (renumbered_equation π.to e) (equation_in e i) (reached π s.metavariables s.bindings r)

  pub store_deep : IsDeepStore s limit → IsDeepStore (renumbered_store π s) limit
  store_deep (deep_equation e i h) = deep_equation (renumbered_equation π.to e) (equation_in e i) (equation_deep e h)
  store_deep (deep_value b i r h) = deep_value (renumbered_binding π.to b) (binding_in π b s.bindings i) (reach b.of r) (term_deep 0 b.value h)
  store_deep (deep_type m A e r h) = deep_type (π.to m) (renumbered_type π.to A) (declared_at π s.metavariables m A e) (reach m r) (type_deep 0 A h)

deep_under : (limit : ℕ) (Σ : Signature) → IsSignature Σ → (π : Renumbering) (s : Store) → AreDeep limit Σ s → AreDeep limit Σ (renumbered_store π s)
deep_under limit Σ ok π s d = let (ρ, a, r) = run_under Σ ok π d.run in record { reached = renumbered_store ρ d.reached; run = r; deep = store_deep ρ d.reached limit d.deep }

pub deep_under_numbers : DeepUnderNumbers
deep_under_numbers limit Σ ok π s = (deep_under limit Σ ok π s, λ d. subst (AreDeep limit Σ) (returned_store π s) (deep_under limit Σ ok (undone π) (renumbered_store π s) d))
