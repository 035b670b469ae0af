-- Typing by skeletons in which only declared metavariables have one: it follows from typing, and each step keeps it.
use Rattle.std.proofs.Common.{◌≡◌, ℕ, zero, suc, List, [], ◌∷◌, Option, Some, None, inl, inr, refl, sym, arith, ap, ◌∙◌, subst}
use Rattle.lf.specs.SkeletonTyping.{HeadSkeleton, HeadSkeletons, SkeletonAt, SpineSkeleton, TermSkeleton, TypeBySkeletons}
use Rattle.lf.specs.Skeletons.{family_skeleton, family_skeletons, type_skeleton}
use Rattle.lf.specs.Substitution.{reduce, single}
use Rattle.lf.specs.Syntax.{Head, Kind, LfType, Skeleton, Spine, Term, app, arrow, atom, base, constant, kind_pi, kind_skeleton, lambda, metavariable, nil, pi, root, skeleton, star, variable}
use Rattle.lf.specs.Typing.{IsSignature, Signature, TypeAt, instantiate_kind, instantiate_type}
use Rattle.lf.specs.Variables.{onto}
use Rattle.lf.proofs.SkeletonTypes.{renaming_keeps_types_by_skeletons, single_type_by_skeletons}
use Rattle.lf.proofs.ToSkeletons.{kind_skeleton_substituted, type_by_skeletons_with}
use Rattle.lf.proofs.TypeLaws.{skeleton_renamed, skeleton_substituted}
use Rattle.lf_unification.specs.Lists.{followed}
use Rattle.lf_unification.specs.Offering.{argument_equations}
use Rattle.lf_unification.specs.OpenTyping.{Declares, MetavariablesIn, MetavariablesInSpine, MetavariablesInType, OpenHasType, OpenHeadHasType, OpenIsType, OpenSpineFitsKind, OpenSpineType, set_at}
use Rattle.lf_unification.specs.Offering.{MetavariablesInLocals}
use Rattle.lf_unification.specs.PartialInstance.{IsFilling}
use Rattle.lf_unification.specs.Patterns.{local_skeletons}
use Rattle.lf_unification.specs.Putting.{IsRigidHead}
use Rattle.lf_unification.specs.Solving.{IsWellFormed}
use Rattle.lf_unification.specs.Pruning.{pruned_type}
use Rattle.lf_unification.specs.Steps.{Run, Step, bind, drop_equal, equal_heads, next_equation, no_step, on_pattern, open_lambdas, prune_both, prune_inside, put_bindings, renew, then_run}
use Rattle.lf_unification.specs.Unifiers.{Binding, Equation, Store, equation_on}
use Rattle.lf_unification.proofs.Agree.{set_cases}
use Rattle.lf_unification.proofs.Eta.{rename_id_type}
use Rattle.lf_unification.proofs.OpenSound.{skeleton_raise}
use Rattle.lf_unification.proofs.Runs.{step_form}
use Rattle.tw_putting.specs.Fits.{declared_skeletons}
use Rattle.tw_putting.specs.Ready.{LocalsBySkeletons, TypesBySkeletons}

some_same : {A : Type 0} {x y : A} → Some x ≡ Some y → x ≡ y
some_same e = cc

pub at_declared : (D : List LfType) (i : ℕ) (A : LfType) → TypeAt (onto D []) i A → SkeletonAt (local_skeletons D []) i (skeleton A)
at_declared [] i A g = absurd g
at_declared (B ∷ D) zero A e = sym (ap skeleton e ∙ skeleton_renamed suc B)
at_declared (B ∷ D) (suc i) A (C, g, e) = subst (SkeletonAt (local_skeletons D []) i) (sym (ap skeleton e ∙ skeleton_renamed suc C)) (at_declared D i C g)

at_once : (Γ : List Skeleton) (i : ℕ) (t u : Skeleton) → SkeletonAt Γ i t → SkeletonAt Γ i u → t ≡ u
at_once [] i t u g h = absurd g
at_once (a ∷ Γ) zero t u g h = sym g ∙ h
at_once (a ∷ Γ) (suc i) t u g h = at_once Γ i t u g h

-- What is typed up to fillings has declared skeletons.
module _ (Σ : Signature) (Ψ : ℕ → Option LfType) (U : (ℕ → Option Term) → Type 0) where
  abbrev κ : HeadSkeletons
  κ = declared_skeletons Σ Ψ

  mutual
    pub term_declared : (D : List LfType) (M : Term) (A : LfType) → OpenHasType Σ [] Ψ U D M A → TermSkeleton κ (local_skeletons D []) M (skeleton A)
    term_declared D (lambda M) (pi A B) m = term_declared (A ∷ D) M B m
    term_declared D (lambda M) (atom a T) m = m
    term_declared D (root h S) (pi A B) m = m
    term_declared D (root (constant c) S) (atom a T) (A, g, s) = (skeleton A, ap type_skeleton g, spine_declared D S A (atom a T) s)
    term_declared D (root (variable i) S) (atom a T) (A, g, s) = (skeleton A, at_declared D i A g, spine_declared D S A (atom a T) s)
    term_declared D (root (metavariable m) S) (atom a T) (A, (B, g, e), s) = (skeleton A, ap type_skeleton g ∙ ap Some (sym (ap skeleton e ∙ skeleton_raise D B)), spine_declared D S A (atom a T) s)

    pub spine_declared : (D : List LfType) (S : Spine) (A C : LfType) → OpenSpineType Σ [] Ψ U D S A C → SpineSkeleton κ (local_skeletons D []) S (skeleton A) (skeleton C)
    spine_declared D nil A C e = e.0
    spine_declared D (app M S) (pi A B) C (m, s) = (term_declared D M A m, subst (λ t. SpineSkeleton κ (local_skeletons D []) S t (skeleton C)) (skeleton_substituted reduce (single (skeleton A) M) B) (spine_declared D S (instantiate_type A M B) C s))
    spine_declared D (app M S) (atom a T) C s = absurd s

  kind_declared : (a : ℕ) (D : List LfType) (S : Spine) (K : Kind) → OpenSpineFitsKind Σ [] Ψ U D S K → SpineSkeleton κ (local_skeletons D []) S (kind_skeleton a K) (base a)
  kind_declared a D nil (kind_pi A K) s = absurd s
  kind_declared a D nil star s = refl
  kind_declared a D (app M S) (kind_pi A K) (m, s) = (term_declared D M A m, subst (λ t. SpineSkeleton κ (local_skeletons D []) S t (base a)) (kind_skeleton_substituted a reduce (single (skeleton A) M) K) (kind_declared a D S (instantiate_kind A M K) s))
  kind_declared a D (app M S) star s = absurd s

  pub type_declared : (D : List LfType) (A : LfType) → OpenIsType Σ [] Ψ U D A → TypeBySkeletons (family_skeletons Σ) κ (local_skeletons D []) A
  type_declared D (pi A B) (a, b) = (type_declared D A a, type_declared (A ∷ D) B b)
  type_declared D (atom a S) (K, e, s) = (kind_skeleton a K, ap (family_skeleton a) e, kind_declared a D S K s)

-- What has declared skeletons mentions declared metavariables.
module _ (Σ : Signature) (Ψ : ℕ → Option LfType) where
  declared_of : (x : Option LfType) (t : Skeleton) → type_skeleton x ≡ Some t → (A : LfType) × (x ≡ Some A)
  declared_of None t e = absurd cc
  declared_of (Some A) t e = (A, refl)

  mutual
    pub term_scoped : (Γ : List Skeleton) (M : Term) (t : Skeleton) → TermSkeleton (declared_skeletons Σ Ψ) Γ M t → MetavariablesIn (Declares Ψ) M
    term_scoped Γ (lambda M) (arrow a b) m = term_scoped (a ∷ Γ) M b m
    term_scoped Γ (lambda M) (base c) m = absurd m
    term_scoped Γ (root h S) (arrow a b) m = absurd m
    term_scoped Γ (root (constant c) S) (base a) (t, g, s) = spine_scoped Γ S t (base a) s
    term_scoped Γ (root (variable i) S) (base a) (t, g, s) = spine_scoped Γ S t (base a) s
    term_scoped Γ (root (metavariable m) S) (base a) (t, g, s) = (declared_of (Ψ m) t g, spine_scoped Γ S t (base a) s)

    pub spine_scoped : (Γ : List Skeleton) (S : Spine) (t u : Skeleton) → SpineSkeleton (declared_skeletons Σ Ψ) Γ S t u → MetavariablesInSpine (Declares Ψ) S
    spine_scoped Γ nil t u s = tt
    spine_scoped Γ (app M S) (arrow a b) u (m, s) = (term_scoped Γ M a m, spine_scoped Γ S b u s)
    spine_scoped Γ (app M S) (base c) u s = absurd s

  pub type_scoped : (φ : ℕ → Option Skeleton) (Γ : List Skeleton) (A : LfType) → TypeBySkeletons φ (declared_skeletons Σ Ψ) Γ A → MetavariablesInType (Declares Ψ) A
  type_scoped φ Γ (pi A B) (a, b) = (type_scoped φ Γ A a, type_scoped φ (skeleton A ∷ Γ) B b)
  type_scoped φ Γ (atom a S) (t, e, s) = spine_scoped Γ S t (base a) s

  pub locals_scoped : (D : List LfType) → LocalsBySkeletons Σ Ψ D → MetavariablesInLocals (Declares Ψ) D
  locals_scoped [] d = tt
  locals_scoped (A ∷ D) (d, a) = (locals_scoped D d, type_scoped (family_skeletons Σ) (local_skeletons D []) A a)

-- Other skeletons of heads, which include these.
module _ (κ κ' : HeadSkeletons) (constants : (c : ℕ) (t : Skeleton) → κ.constant_skeleton c ≡ Some t → κ'.constant_skeleton c ≡ Some t) (metavariables : (m : ℕ) (t : Skeleton) → κ.metavariable_skeleton m ≡ Some t → κ'.metavariable_skeleton m ≡ Some t) where
  mutual
    pub term_with_more : (Γ : List Skeleton) (M : Term) (t : Skeleton) → TermSkeleton κ Γ M t → TermSkeleton κ' Γ M t
    term_with_more Γ (lambda M) (arrow a b) m = term_with_more (a ∷ Γ) M b m
    term_with_more Γ (lambda M) (base c) m = absurd m
    term_with_more Γ (root h S) (arrow a b) m = absurd m
    term_with_more Γ (root (constant c) S) (base a) (t, g, s) = (t, constants c t g, spine_with_more Γ S t (base a) s)
    term_with_more Γ (root (variable i) S) (base a) (t, g, s) = (t, g, spine_with_more Γ S t (base a) s)
    term_with_more Γ (root (metavariable m) S) (base a) (t, g, s) = (t, metavariables m t g, spine_with_more Γ S t (base a) s)

    pub spine_with_more : (Γ : List Skeleton) (S : Spine) (t u : Skeleton) → SpineSkeleton κ Γ S t u → SpineSkeleton κ' Γ S t u
    spine_with_more Γ nil t u s = s
    spine_with_more Γ (app M S) (arrow a b) u (m, s) = (term_with_more Γ M a m, spine_with_more Γ S b u s)
    spine_with_more Γ (app M S) (base c) u s = absurd s

  pub type_with_more : (φ : ℕ → Option Skeleton) (Γ : List Skeleton) (A : LfType) → TypeBySkeletons φ κ Γ A → TypeBySkeletons φ κ' Γ A
  type_with_more φ Γ (pi A B) (a, b) = (type_with_more φ Γ A a, type_with_more φ (skeleton A ∷ Γ) B b)
  type_with_more φ Γ (atom a S) (t, e, s) = (t, e, spine_with_more Γ S t (base a) s)

-- More metavariables.
module _ (Σ : Signature) (Ψ Ψ' : ℕ → Option LfType) (grows : (m : ℕ) (A : LfType) → Ψ m ≡ Some A → Ψ' m ≡ Some A) where
  more : (m : ℕ) (t : Skeleton) → type_skeleton (Ψ m) ≡ Some t → type_skeleton (Ψ' m) ≡ Some t
  more m t e = let (A, d) = declared_of Σ Ψ (Ψ m) t e in ap type_skeleton (grows m A d) ∙ sym (ap type_skeleton d) ∙ e

  pub type_grows : (φ : ℕ → Option Skeleton) (Γ : List Skeleton) (A : LfType) → TypeBySkeletons φ (declared_skeletons Σ Ψ) Γ A → TypeBySkeletons φ (declared_skeletons Σ Ψ') Γ A
  type_grows φ Γ A a = type_with_more (declared_skeletons Σ Ψ) (declared_skeletons Σ Ψ') (λ c t e. e) more φ Γ A a

  pub locals_grow : (D : List LfType) → LocalsBySkeletons Σ Ψ D → LocalsBySkeletons Σ Ψ' D
  locals_grow [] d = tt
  locals_grow (A ∷ D) (d, a) = (locals_grow D d, type_grows (family_skeletons Σ) (local_skeletons D []) A a)

  pub types_grow : (es : List Equation) → TypesBySkeletons Σ Ψ es → TypesBySkeletons Σ Ψ' es
  types_grow [] t = tt
  types_grow (e ∷ es) ((d, a), t) = ((locals_grow e.local d, type_grows (family_skeletons Σ) (local_skeletons e.local []) e.of_type a), types_grow es t)

module _ (Σ : Signature) (Ψ : ℕ → Option LfType) where
  pub types_both : (es fs : List Equation) → TypesBySkeletons Σ Ψ es → TypesBySkeletons Σ Ψ fs → TypesBySkeletons Σ Ψ (followed es fs)
  types_both [] fs t u = u
  types_both (e ∷ es) fs (a, t) u = (a, types_both es fs t u)

  pub types_split : (es fs : List Equation) → TypesBySkeletons Σ Ψ (followed es fs) → TypesBySkeletons Σ Ψ es × TypesBySkeletons Σ Ψ fs
  types_split [] fs t = (tt, t)
  types_split (e ∷ es) fs (a, t) = let (u, v) = types_split es fs t in ((a, u), v)

  -- the type of a variable
  pub variable_by_skeletons : (D : List LfType) (i : ℕ) (A : LfType) → LocalsBySkeletons Σ Ψ D → TypeAt (onto D []) i A → TypeBySkeletons (family_skeletons Σ) (declared_skeletons Σ Ψ) (local_skeletons D []) A
  variable_by_skeletons [] i A d g = absurd g
  variable_by_skeletons (B ∷ D) zero A (d, b) e = subst (TypeBySkeletons (family_skeletons Σ) (declared_skeletons Σ Ψ) (skeleton B ∷ local_skeletons D [])) (sym e)
      (renaming_keeps_types_by_skeletons (family_skeletons Σ) (declared_skeletons Σ Ψ) (local_skeletons D []) (skeleton B ∷ local_skeletons D []) suc B (λ j t h. h) b)
  variable_by_skeletons (B ∷ D) (suc i) A (d, b) (C, g, e) = subst (TypeBySkeletons (family_skeletons Σ) (declared_skeletons Σ Ψ) (skeleton B ∷ local_skeletons D [])) (sym e)
      (renaming_keeps_types_by_skeletons (family_skeletons Σ) (declared_skeletons Σ Ψ) (local_skeletons D []) (skeleton B ∷ local_skeletons D []) suc C (λ j t h. h) (variable_by_skeletons D i C d g))

  module _ (ok : IsSignature Σ) where
    constant_by_skeletons : (D : List LfType) (c : ℕ) (A : LfType) → Σ.types c ≡ Some A → TypeBySkeletons (family_skeletons Σ) (declared_skeletons Σ Ψ) (local_skeletons D []) A
    constant_by_skeletons D c A e = subst (TypeBySkeletons (family_skeletons Σ) (declared_skeletons Σ Ψ) (local_skeletons D [])) (rename_id_type A)
        (renaming_keeps_types_by_skeletons (family_skeletons Σ) (declared_skeletons Σ Ψ) [] (local_skeletons D []) (λ i. i) A (λ j t h. absurd h) (type_by_skeletons_with Σ (λ m. type_skeleton (Ψ m)) [] A (ok.types_ok c A e)))

    rigid : (h : Head) → IsRigidHead h → (m : ℕ) → h ≡ metavariable m → ⊥
    rigid (constant c) r m e = cc
    rigid (variable i) r m e = cc
    rigid (metavariable k) r m e = r

    -- the type of a head
    pub head_by_skeletons : (U : (ℕ → Option Term) → Type 0) (D : List LfType) (h : Head) (A : LfType) → ((m : ℕ) → h ≡ metavariable m → ⊥) → LocalsBySkeletons Σ Ψ D → OpenHeadHasType Σ [] Ψ U D h A → TypeBySkeletons (family_skeletons Σ) (declared_skeletons Σ Ψ) (local_skeletons D []) A
    head_by_skeletons U D (constant c) A r d g = constant_by_skeletons D c A g
    head_by_skeletons U D (variable i) A r d g = variable_by_skeletons D i A d g
    head_by_skeletons U D (metavariable m) A r d g = absurd (r m refl)

    -- the equations of the arguments
    pub argument_types : (D : List LfType) (A : LfType) (S T : Spine) (u : Skeleton) → LocalsBySkeletons Σ Ψ D → TypeBySkeletons (family_skeletons Σ) (declared_skeletons Σ Ψ) (local_skeletons D []) A → SpineSkeleton (declared_skeletons Σ Ψ) (local_skeletons D []) S (skeleton A) u → TypesBySkeletons Σ Ψ (argument_equations D A S T)
    argument_types D (pi A B) nil T u d (a, b) s = tt
    argument_types D (pi A B) (app M S) nil u d (a, b) s = tt
    argument_types D (pi A B) (app M S) (app N T) u d (a, b) (m, s) = (
      (d, a),
      argument_types D (instantiate_type A M B) S T u d (single_type_by_skeletons (family_skeletons Σ) (declared_skeletons Σ Ψ) (skeleton A) (local_skeletons D []) M B m b)
          (subst (λ t. SpineSkeleton (declared_skeletons Σ Ψ) (local_skeletons D []) S t u) (sym (skeleton_substituted reduce (single (skeleton A) M) B)) s),
    )
    argument_types D (atom a I) S T u d b s = tt

    pub head_once : (Γ : List Skeleton) (h : Head) (t u : Skeleton) → HeadSkeleton (declared_skeletons Σ Ψ) Γ h t → HeadSkeleton (declared_skeletons Σ Ψ) Γ h u → t ≡ u
    head_once Γ (constant c) t u g k = some_same (sym g ∙ k)
    head_once Γ (variable i) t u g k = at_once Γ i t u g k
    head_once Γ (metavariable m) t u g k = some_same (sym g ∙ k)

    pub head_skeleton : (U : (ℕ → Option Term) → Type 0) (D : List LfType) (h : Head) (A : LfType) → OpenHeadHasType Σ [] Ψ U D h A → HeadSkeleton (declared_skeletons Σ Ψ) (local_skeletons D []) h (skeleton A)
    head_skeleton U D (constant c) A g = ap type_skeleton g
    head_skeleton U D (variable i) A g = at_declared D i A g
    head_skeleton U D (metavariable m) A (B, g, e) = ap type_skeleton g ∙ ap Some (sym (ap skeleton e ∙ skeleton_raise D B))

    pub rigid_by_skeletons : (U : (ℕ → Option Term) → Type 0) (D : List LfType) (h : Head) (A : LfType) → IsRigidHead h → LocalsBySkeletons Σ Ψ D → OpenHeadHasType Σ [] Ψ U D h A → TypeBySkeletons (family_skeletons Σ) (declared_skeletons Σ Ψ) (local_skeletons D []) A
    rigid_by_skeletons U D h A r d g = head_by_skeletons U D h A (rigid h r) d g

    -- where a root is typed, the equations of its arguments
    pub root_types : (U : (ℕ → Option Term) → Type 0) (D : List LfType) (h : Head) (A : LfType) (S T I : Spine) (a : ℕ) → IsRigidHead h → LocalsBySkeletons Σ Ψ D → OpenHeadHasType Σ [] Ψ U D h A → TermSkeleton (declared_skeletons Σ Ψ) (local_skeletons D []) (root h S) (base a) → TypesBySkeletons Σ Ψ (argument_equations D A S T)
    root_types U D h A S T I a r d g (t, k, s) =
        argument_types D A S T (base a) d (head_by_skeletons U D h A (rigid h r) d g)
        (subst (λ u. SpineSkeleton (declared_skeletons Σ Ψ) (local_skeletons D []) S u (base a)) (head_once (local_skeletons D []) h t (skeleton A) k (head_skeleton U D h A g)) s)

grown : (Ψ : ℕ → Option LfType) (n : ℕ) (X : LfType) → Ψ n ≡ None → (m : ℕ) (A : LfType) → Ψ m ≡ Some A → set_at n (Some X) Ψ m ≡ Some A
grown Ψ n X new m A e = elim (set_cases n (Some X) Ψ m) [ inl h ↦ (let no : None ≡ Some A = sym new ∙ (ap Ψ (sym h) ∙ e) in absurd cc) | inr h ↦ h ∙ e ]

abbrev holding : (ℕ → Option LfType) → List Binding → List Equation → Store
holding P cs xs = record { metavariables = P; bindings = cs; equations = xs }

-- Each step keeps it.
module _ (Σ : Signature) (ok : IsSignature Σ) where
  abbrev more_declared : (Ψ : ℕ → Option LfType) (n : ℕ) (X : LfType) (es : List Equation) → Ψ n ≡ None → TypesBySkeletons Σ Ψ es → TypesBySkeletons Σ (set_at n (Some X) Ψ) es
  more_declared Ψ n X es new t = types_grow Σ Ψ (set_at n (Some X) Ψ) (grown Ψ n X new) es t

  pub step_types : {s s' : Store} → Step Σ s s' → IsWellFormed Σ s → TypesBySkeletons Σ s.metavariables s.equations → TypesBySkeletons Σ s'.metavariables s'.equations
  step_types (next_equation {Ψ = Ψ} es e fs) w t = let (u, (a, v)) = types_split Σ Ψ es (e ∷ fs) t in (a, types_both Σ Ψ es fs u v)
  step_types (put_bindings f g) w t = t
  step_types drop_equal w (a, t) = t
  step_types open_lambdas w ((d, (a, b)), t) = (((d, a), b), t)
  step_types (equal_heads {Ψ = Ψ} {bs = bs} {es = es} {D = D} {S = S} {T = T} {I = I} {a = a} h A r g) w ((d, i), t) =
      types_both Σ Ψ (argument_equations D A S T) es
      (root_types Σ Ψ ok (λ β. Unit {0}) D h A S T I a r d g (term_declared Σ Ψ (IsFilling Σ [] (holding Ψ bs (record { local = D; left = root h S; right = root h T; of_type = atom a I } ∷ es))) D (root h S) (atom a I) w.typed.equations_typed.0.left_typed)) t
  step_types (bind side D m xs N C d u p b) w (a, t) = t
  step_types (prune_inside {Ψ = Ψ} {es = es} side D m xs N C d p c u n x) w t = more_declared Ψ n (pruned_type c.pruned) (equation_on side D (on_pattern Ψ m xs) N C ∷ es) (x.fresh n (omega arith)) t
  step_types (prune_both {Ψ = Ψ} {es = es} side D m xs N C d p c u n x) w t = more_declared Ψ n (pruned_type c.pruned) (equation_on side D (on_pattern Ψ m xs) N C ∷ es) (x.fresh n (omega arith)) t
  step_types (renew {Ψ = Ψ} {es = es} m A A' d u q p n x) w t = more_declared Ψ n A' es (x.fresh n (omega arith)) t

  pub run_types : {s s' : Store} → Run Σ s s' → IsWellFormed Σ s → TypesBySkeletons Σ s.metavariables s.equations → TypesBySkeletons Σ s'.metavariables s'.equations
  run_types no_step w t = t
  run_types (then_run p r) w t = run_types r (step_form Σ ok w p) (step_types p w t)
