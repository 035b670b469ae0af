-- A store that is ready mentions declared metavariables alone; so with different numbers for these it is one under a renumbering.
use Rattle.std.proofs.Common.{◌≡◌, ℕ, ◌<◌, ◌≤◌, List, [], ◌∷◌, refl, sym, ap, ◌∙◌}
use Rattle.std.specs.Prelude.{Option, Some, None}
use Rattle.std.specs.Option.{option_map}
use Rattle.lf.specs.SkeletonTyping.{SpineSkeleton, TermSkeleton, TypeBySkeletons}
use Rattle.lf.specs.Skeletons.{family_skeletons, type_skeleton}
use Rattle.lf.specs.Syntax.{constant, variable, metavariable, Term, Spine, lambda, root, nil, app, LfType, Kind, pi, atom, kind_pi, star, Skeleton, base, arrow, skeleton}
use Rattle.lf.specs.Typing.{Signature, instantiate_kind, instantiate_type}
use Rattle.lf_unification.specs.Offering.{MetavariablesInLocals}
use Rattle.lf_unification.specs.OpenTyping.{Declares, MetavariablesIn, MetavariablesInSpine, MetavariablesInType, OpenHasType, OpenIsType, OpenSpineFitsKind, OpenSpineType}
use Rattle.lf_unification.specs.PartialInstance.{EquationsAreTyped, IsFilling}
use Rattle.lf_unification.specs.Patterns.{local_skeletons}
use Rattle.lf_unification.specs.Scope.{IsScoped, MetavariablesInBindings, MetavariablesInEquationTypes, MetavariablesInEquations}
use Rattle.lf_unification.specs.Solving.{IsWellFormed}
use Rattle.lf_unification.specs.Unifiers.{Binding, BindingsAreTyped, Equation, Store}
use Rattle.lf_coverage.specs.Renumbering.{HasNumbers, Renumbering, renumbered_type, renumbered_types, renumbered_store}
use Rattle.lf_coverage.specs.RenumberingLaws.{NumbersAreRenumbering}
use Rattle.lf_coverage.specs.StoreSkeletons.{LocalsHaveSkeletons, StoreHasSkeletons, TypesHaveSkeletons, declared_in}
use Rattle.lf_coverage.proofs.RenumberedNumbers.{declared_below, numbers_extend}
use Rattle.lf_coverage.proofs.RenumberedPatterns.{store_same}
use Rattle.lf_coverage.proofs.RenumberedRuns.{bindings_alike, equations_alike, type_alike}
use mathlib.Core.Path.{fun_ext}

-- what is typed up to fillings
module _ (Σ : Signature) (Ψ : ℕ → Option LfType) (U : (ℕ → Option Term) → Type 0) where
  mutual
    term_declared : (D : List LfType) (M : Term) (A : LfType) → OpenHasType Σ [] Ψ U D M A → MetavariablesIn (Declares Ψ) M
    term_declared D (lambda M) (pi A B) t = term_declared (A ∷ D) M B t
    term_declared D (lambda M) (atom a T) t = absurd t
    term_declared D (root h S) (pi A B) t = absurd t
    term_declared D (root (constant c) S) (atom a T) (A, k, s) = spine_declared D S A (atom a T) s
    term_declared D (root (variable i) S) (atom a T) (A, k, s) = spine_declared D S A (atom a T) s
    term_declared D (root (metavariable m) S) (atom a T) (A, (B, e, q), s) = ((B, e), spine_declared D S A (atom a T) s)

    spine_declared : (D : List LfType) (S : Spine) (A C : LfType) → OpenSpineType Σ [] Ψ U D S A C → MetavariablesInSpine (Declares Ψ) S
    spine_declared D nil A C s = tt
    spine_declared D (app M S) (pi A B) C (m, s) = (term_declared D M A m, spine_declared D S (instantiate_type A M B) C s)
    spine_declared D (app M S) (atom a T) C s = absurd s

  fits_declared : (D : List LfType) (S : Spine) (K : Kind) → OpenSpineFitsKind Σ [] Ψ U D S K → MetavariablesInSpine (Declares Ψ) S
  fits_declared D nil K s = tt
  fits_declared D (app M S) (kind_pi A K) (m, s) = (term_declared D M A m, fits_declared D S (instantiate_kind A M K) s)
  fits_declared D (app M S) star s = absurd s

  type_declared : (D : List LfType) (A : LfType) → OpenIsType Σ [] Ψ U D A → MetavariablesInType (Declares Ψ) A
  type_declared D (pi A B) (a, b) = (type_declared D A a, type_declared (A ∷ D) B b)
  type_declared D (atom a S) (K, e, s) = fits_declared D S K s

  bindings_declared : (bs : List Binding) → BindingsAreTyped Σ [] Ψ U bs → MetavariablesInBindings (Declares Ψ) bs
  bindings_declared [] t = tt
  bindings_declared (b ∷ bs) ((A, e, m), t) = ((A, e), term_declared [] b.value A m, bindings_declared bs t)

  sides_declared : (es : List Equation) → EquationsAreTyped Σ [] Ψ U es → MetavariablesInEquations (Declares Ψ) es
  sides_declared [] t = tt
  sides_declared (e ∷ es) (t, r) = (term_declared e.local e.left e.of_type t.left_typed, term_declared e.local e.right e.of_type t.right_typed, sides_declared es r)

-- what skeletons type
module _ (Σ : Signature) (Ψ : ℕ → Option LfType) where
  has_type : (m : ℕ) (t : Skeleton) → type_skeleton (Ψ m) ≡ Some t → Declares Ψ m
  has_type m t e = of (Ψ m) refl e
    where
      of : (x : Option LfType) → Ψ m ≡ x → type_skeleton x ≡ Some t → Declares Ψ m
      of None q e = absurd cc
      of (Some A) q e = (A, q)

  mutual
    term_has : (Γ : List Skeleton) (M : Term) (t : Skeleton) → TermSkeleton (declared_in Σ Ψ) Γ M t → MetavariablesIn (Declares Ψ) M
    term_has Γ (lambda M) (arrow a b) h = term_has (a ∷ Γ) M b h
    term_has Γ (lambda M) (base c) h = absurd h
    term_has Γ (root k S) (arrow a b) h = absurd h
    term_has Γ (root (constant c) S) (base d) (t, k, s) = spine_has Γ S t (base d) s
    term_has Γ (root (variable i) S) (base d) (t, k, s) = spine_has Γ S t (base d) s
    term_has Γ (root (metavariable m) S) (base d) (t, k, s) = (has_type m t k, spine_has Γ S t (base d) s)

    spine_has : (Γ : List Skeleton) (S : Spine) (t u : Skeleton) → SpineSkeleton (declared_in Σ Ψ) Γ S t u → MetavariablesInSpine (Declares Ψ) S
    spine_has Γ nil t u s = tt
    spine_has Γ (app M S) (arrow a b) u (m, s) = (term_has Γ M a m, spine_has Γ S b u s)
    spine_has Γ (app M S) (base c) u s = absurd s

  type_has : (Γ : List Skeleton) (A : LfType) → TypeBySkeletons (family_skeletons Σ) (declared_in Σ Ψ) Γ A → MetavariablesInType (Declares Ψ) A
  type_has Γ (pi A B) (a, b) = (type_has Γ A a, type_has (skeleton A ∷ Γ) B b)
  type_has Γ (atom a S) (t, e, s) = spine_has Γ S t (base a) s

  locals_have : (D : List LfType) → LocalsHaveSkeletons Σ Ψ D → MetavariablesInLocals (Declares Ψ) D
  locals_have [] h = tt
  locals_have (A ∷ D) (h, t) = (locals_have D h, type_has (local_skeletons D []) A t)

  types_have : (es : List Equation) → TypesHaveSkeletons Σ Ψ es → MetavariablesInEquationTypes (Declares Ψ) es
  types_have [] h = tt
  types_have (e ∷ es) ((l, t), h) = (locals_have e.local l, type_has (local_skeletons e.local []) e.of_type t, types_have es h)

pub ready_is_scoped : (Σ : Signature) (s : Store) → IsWellFormed Σ s → StoreHasSkeletons Σ s → (n : ℕ) → ((m : ℕ) → n ≤ m → s.metavariables m ≡ None) → IsScoped s.metavariables n s.bindings s.equations
ready_is_scoped Σ s w h n fresh = record {
  fresh = fresh;
  types = λ m A e. type_declared Σ s.metavariables (IsFilling Σ [] s) [] A (w.typed.declarations_typed.metavariables_typed m A e);
  bindings = bindings_declared Σ s.metavariables (IsFilling Σ [] s) s.bindings w.typed.bindings_typed;
  equations = sides_declared Σ s.metavariables (IsFilling Σ [] s) s.equations w.typed.equations_typed;
  equation_types = types_have Σ s.metavariables s.equations h;
}

module _ (s t : Store) (n : ℕ) (g : ℕ → ℕ) (c : IsScoped s.metavariables n s.bindings s.equations) (h : HasNumbers g s t) (π : Renumbering) (below : (m : ℕ) → m < n → π.to m ≡ g m) where
  same_number : (m : ℕ) → Declares s.metavariables m → g m ≡ π.to m
  same_number m (A, e) = sym (below m (declared_below π s.metavariables n c.fresh m A e))

  types_same : (k : ℕ) (x : Option LfType) → t.metavariables k ≡ x → (y : Option LfType) → s.metavariables (π.back k) ≡ y → t.metavariables k ≡ renumbered_types π s.metavariables k
  types_same k (Some B) e y q =
      let (m, (A, d), r) = h.no_others k B e in
      let at : π.back k ≡ m = ap π.back (sym (sym (same_number m (A, d)) ∙ r)) ∙ π.back_to m in
      sym (ap t.metavariables r) ∙ h.declared m A d ∙ ap Some (type_alike s.metavariables g π.to same_number A (c.types m A d)) ∙ sym (ap (option_map (renumbered_type π.to)) (ap s.metavariables at ∙ d))
  types_same k None e None q = e ∙ sym (ap (option_map (renumbered_type π.to)) q)
  types_same k None e (Some A) q =
      let r : g (π.back k) ≡ k = same_number (π.back k) (A, q) ∙ π.to_back k in
      let d : None ≡ Some (renumbered_type g A) = sym e ∙ sym (ap t.metavariables r) ∙ h.declared (π.back k) A q in
      absurd cc

  pub numbered_same : t ≡ renumbered_store π s
  numbered_same = store_same (fun_ext (λ k. types_same k (t.metavariables k) refl (s.metavariables (π.back k)) refl)) (h.bindings ∙ bindings_alike s.metavariables g π.to same_number s.bindings c.bindings) (h.equations ∙ equations_alike s.metavariables g π.to same_number s.equations c.equations c.equation_types)

pub numbers_are_renumbering : NumbersAreRenumbering
numbers_are_renumbering Σ s w k n fresh g d t h = let (π, below) = numbers_extend g n d in (π, below, numbered_same s t n g (ready_is_scoped Σ s w k n fresh) h π below)
