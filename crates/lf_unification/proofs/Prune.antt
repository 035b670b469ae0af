-- Occurs check and pruning.
use Rattle.std.proofs.Common.{◌≡◌, ℕ, zero, suc, ◌+◌, ◌≤◌, List, ◌∷◌, Option, Some, refl, sym, ap, ap₂, ◌∙◌, subst, arith}
use Rattle.lf.specs.SkeletonTyping.{SkeletonAt, HeadSkeleton, SpineSkeleton, TermSkeleton}
use Rattle.lf.specs.Syntax.{Head, Skeleton, Spine, Term, app, arrow, base, constant, lambda, metavariable, nil, rename, rename_head, rename_spine, root, lift_renaming, variable}
use Rattle.lf_unification.specs.Filling.{fill, fill_spine, moved}
use Rattle.lf_unification.specs.Patterns.{InImage, FreeVariablesIn, FreeVariablesInSpine, PatternFits, LiftedSet, lambdas_of, pattern, pattern_renaming}
use Rattle.lf_unification.specs.Rigid.{LiftedSetBy, Rigid, RigidInSpine, first, here, in_constant, in_lambda, in_variable, later, moved_by, past_binders}
use Rattle.lf_unification.specs.Skeletons.{TotalSkeletons, as_head_skeletons}
use Rattle.lf.specs.SkeletonTyping.{RenamingBySkeletons}
use Rattle.lf_unification.proofs.Inverse.{only_back, only_rename}
use Rattle.lf_unification.proofs.Patterns.{body, left_side, moved_moved}

-- what holds of the free variables of a filled term holds of those of a filled rigid part
mutual
  pub only_rigid : {N : Term} {k : ℕ} {M : Term} (μ : ℕ → Skeleton) (β : ℕ → Option Term) (P : ℕ → Type 0) → Rigid N k M → FreeVariablesIn P (fill μ β M) → FreeVariablesIn (LiftedSetBy k P) (fill μ (moved_by k β) N)
  only_rigid μ β P here p = p
  only_rigid μ β P (in_lambda o) p = only_rigid μ (moved suc β) (LiftedSet P) o p
  only_rigid μ β P (in_constant o) p = only_rigid_spine μ β P o p
  only_rigid μ β P (in_variable o) p = only_rigid_spine μ β P o p.1

  pub only_rigid_spine : {N : Term} {k : ℕ} {S : Spine} (μ : ℕ → Skeleton) (β : ℕ → Option Term) (P : ℕ → Type 0) → RigidInSpine N k S → FreeVariablesInSpine P (fill_spine μ β S) → FreeVariablesIn (LiftedSetBy k P) (fill μ (moved_by k β) N)
  only_rigid_spine μ β P (first o) p = only_rigid μ β P o p.0
  only_rigid_spine μ β P (later o) p = only_rigid_spine μ β P o p.1

-- Never: a rigid variable outside P, and no instance is within P
pub never_within : {k i : ℕ} {S : Spine} {M : Term} (μ : ℕ → Skeleton) (β : ℕ → Option Term) (P : ℕ → Type 0) → Rigid (root (variable i) S) k M → (LiftedSetBy k P i → ⊥) → FreeVariablesIn P (fill μ β M) → ⊥
never_within μ β P o n p = n (only_rigid μ β P o p).0

-- sizes
abbrev mutual
  size : Term → ℕ
  size (lambda M) = suc (size M)
  size (root h S) = suc (spine_size S)

  spine_size : Spine → ℕ
  spine_size nil = 0
  spine_size (app M S) = size M + spine_size S

mutual
  size_renamed : (ρ : ℕ → ℕ) (M : Term) → size (rename ρ M) ≡ size M
  size_renamed ρ (lambda M) = ap suc (size_renamed (lift_renaming ρ) M)
  size_renamed ρ (root h S) = ap suc (size_rename_spine ρ S)

  size_rename_spine : (ρ : ℕ → ℕ) (S : Spine) → spine_size (rename_spine ρ S) ≡ spine_size S
  size_rename_spine ρ nil = refl
  size_rename_spine ρ (app M S) = ap₂ (◌+◌) (size_renamed ρ M) (size_rename_spine ρ S)

mutual
  size_rigid : {N : Term} {k : ℕ} {M : Term} (μ : ℕ → Skeleton) (β : ℕ → Option Term) → Rigid N k M → size (fill μ (moved_by k β) N) ≤ size (fill μ β M)
  size_rigid μ β here = omega arith
  size_rigid μ β (in_lambda {k = k} {M = M} o) = let h : size (fill μ (moved_by k (moved suc β)) _) ≤ size (fill μ (moved suc β) M) = size_rigid μ (moved suc β) o in omega arith
  size_rigid μ β (in_constant {k = k} {S = S} o) = let h : size (fill μ (moved_by k β) _) ≤ spine_size (fill_spine μ β S) = size_rigid_spine μ β o in omega arith
  size_rigid μ β (in_variable {k = k} {S = S} o) = let h : size (fill μ (moved_by k β) _) ≤ spine_size (fill_spine μ β S) = size_rigid_spine μ β o in omega arith

  size_rigid_spine : {N : Term} {k : ℕ} {S : Spine} (μ : ℕ → Skeleton) (β : ℕ → Option Term) → RigidInSpine N k S → size (fill μ (moved_by k β) N) ≤ spine_size (fill_spine μ β S)
  size_rigid_spine μ β (first {k = k} {M = M} {S = S} o) = let h : size (fill μ (moved_by k β) _) ≤ size (fill μ β M) = size_rigid μ β o in omega arith
  size_rigid_spine μ β (later {k = k} {M = M} {S = S} o) = let h : size (fill μ (moved_by k β) _) ≤ spine_size (fill_spine μ β S) = size_rigid_spine μ β o in omega arith

movedN_moved : (k : ℕ) (τ : ℕ → ℕ) (β : ℕ → Option Term) → moved_by k (moved τ β) ≡ moved (λ i. past_binders k (τ i)) β
movedN_moved zero τ β = refl
movedN_moved (suc k) τ β = ap (moved_by k) (moved_moved suc τ β) ∙ movedN_moved k (λ i. suc (τ i)) β

-- skeleton typing goes back through a renaming
abbrev pub SkeletonsBack : List Skeleton → List Skeleton → (ℕ → ℕ) → Type 0
SkeletonsBack Γ Δ ρ = (i : ℕ) (t : Skeleton) → SkeletonAt Δ (ρ i) t → SkeletonAt Γ i t

pub SkeletonsBack-lift_renaming : (Γ Δ : List Skeleton) (ρ : ℕ → ℕ) (a : Skeleton) → SkeletonsBack Γ Δ ρ → SkeletonsBack (a ∷ Γ) (a ∷ Δ) (lift_renaming ρ)
SkeletonsBack-lift_renaming Γ Δ ρ a g zero t h = h
SkeletonsBack-lift_renaming Γ Δ ρ a g (suc i) t h = g i t h

module _ (κ : TotalSkeletons) where
  head_unrename : (Γ Δ : List Skeleton) (ρ : ℕ → ℕ) (h : Head) (t : Skeleton) → SkeletonsBack Γ Δ ρ → HeadSkeleton (as_head_skeletons κ) Δ (rename_head ρ h) t → HeadSkeleton (as_head_skeletons κ) Γ h t
  head_unrename Γ Δ ρ (constant c) t g k = k
  head_unrename Γ Δ ρ (variable i) t g k = g i t k
  head_unrename Γ Δ ρ (metavariable m) t g k = k

  mutual
    pub TermSkeleton-unrename : (Γ Δ : List Skeleton) (ρ : ℕ → ℕ) (M : Term) (t : Skeleton) → SkeletonsBack Γ Δ ρ → TermSkeleton (as_head_skeletons κ) Δ (rename ρ M) t → TermSkeleton (as_head_skeletons κ) Γ M t
    TermSkeleton-unrename Γ Δ ρ (lambda M) (arrow a b) g m = TermSkeleton-unrename (a ∷ Γ) (a ∷ Δ) (lift_renaming ρ) M b (SkeletonsBack-lift_renaming Γ Δ ρ a g) m
    TermSkeleton-unrename Γ Δ ρ (lambda M) (base c) g m = m
    TermSkeleton-unrename Γ Δ ρ (root h S) (arrow a b) g m = m
    TermSkeleton-unrename Γ Δ ρ (root h S) (base c) g (t, k, m) = (t, head_unrename Γ Δ ρ h t g k, SpineSkeleton-unrename Γ Δ ρ S t (base c) g m)

    pub SpineSkeleton-unrename : (Γ Δ : List Skeleton) (ρ : ℕ → ℕ) (S : Spine) (t u : Skeleton) → SkeletonsBack Γ Δ ρ → SpineSkeleton (as_head_skeletons κ) Δ (rename_spine ρ S) t u → SpineSkeleton (as_head_skeletons κ) Γ S t u
    SpineSkeleton-unrename Γ Δ ρ nil t u g m = m
    SpineSkeleton-unrename Γ Δ ρ (app M S) (arrow a b) u g (m, s) = (TermSkeleton-unrename Γ Δ ρ M a g m, SpineSkeleton-unrename Γ Δ ρ S b u g s)
    SpineSkeleton-unrename Γ Δ ρ (app M S) (base c) u g m = m

  -- an equation of m on a pattern, at the skeleton-typed value V of m
  module _ (Γ Δ : List Skeleton) (τ : ℕ → ℕ) (g : RenamingBySkeletons Γ Δ τ) (m : ℕ) (xs : List ℕ) (p : PatternFits Δ (κ.metavariable_skeleton m) xs) (β : ℕ → Option Term) (V : Term) (e : β m ≡ Some V) (v : TermSkeleton (as_head_skeletons κ) Γ V (κ.metavariable_skeleton m)) where
    abbrev μ : ℕ → Skeleton
    μ = κ.metavariable_skeleton

    -- a rigid variable that the pattern does not have: no unifier
    pub never_solved : (k i : ℕ) (S : Spine) (R : Term) → Rigid (root (variable i) S) k R → (LiftedSetBy k (InImage (pattern_renaming (μ m) xs τ)) i → ⊥) → fill μ (moved τ β) (root (metavariable m) (pattern (μ m) xs)) ≡ fill μ (moved τ β) R → ⊥
    never_solved k i S R o n h =
        let (M, r) = body κ Γ (μ m) V v in
        never_within μ (moved τ β) (InImage (pattern_renaming (μ m) xs τ)) o n (subst (FreeVariablesIn (InImage (pattern_renaming (μ m) xs τ))) (sym (left_side κ Γ Δ τ g m xs p β V e v M r) ∙ h) (only_rename (pattern_renaming (μ m) xs τ) M))

    -- an occurrence of n on a pattern, under k more binders, in the context Δ'
    module _ (k : ℕ) (Δ' : List Skeleton) (g' : RenamingBySkeletons Γ Δ' (λ i. past_binders k (τ i))) (n : ℕ) (ys : List ℕ) (p' : PatternFits Δ' (κ.metavariable_skeleton n) ys) (W : Term) (f : β n ≡ Some W) (w : TermSkeleton (as_head_skeletons κ) Γ W (κ.metavariable_skeleton n)) where
      abbrev ρ' : ℕ → ℕ
      ρ' = pattern_renaming (μ n) ys (λ i. past_binders k (τ i))

      inner_side : (M : Term) → W ≡ lambdas_of (μ n) M → fill μ (moved_by k (moved τ β)) (root (metavariable n) (pattern (μ n) ys)) ≡ rename ρ' M
      inner_side M q = ap (λ z. fill μ z (root (metavariable n) (pattern (μ n) ys))) (movedN_moved k τ β) ∙ left_side κ Γ Δ' (λ i. past_binders k (τ i)) g' n ys p' β W f w M q

      -- the body of n uses only those arguments that stand in the pattern of m, or were bound on the way
      pub must_lose : (R B : Term) → W ≡ lambdas_of (μ n) B → Rigid (root (metavariable n) (pattern (μ n) ys)) k R → fill μ (moved τ β) (root (metavariable m) (pattern (μ m) xs)) ≡ fill μ (moved τ β) R → FreeVariablesIn (λ i. LiftedSetBy k (InImage (pattern_renaming (μ m) xs τ)) (ρ' i)) B
      must_lose R B q o h =
          let (M, r) = body κ Γ (μ m) V v in
          let P : ℕ → Type 0 = InImage (pattern_renaming (μ m) xs τ) in
          let x : FreeVariablesIn P (fill μ (moved τ β) R) = subst (FreeVariablesIn P) (sym (left_side κ Γ Δ τ g m xs p β V e v M r) ∙ h) (only_rename (pattern_renaming (μ m) xs τ) M) in
          only_back (LiftedSetBy k P) ρ' B (subst (FreeVariablesIn (LiftedSetBy k P)) (inner_side B q) (only_rigid μ (moved τ β) P o x))

    -- the occurs check
    module _ (k : ℕ) (Δ' : List Skeleton) (g' : RenamingBySkeletons Γ Δ' (λ i. past_binders k (τ i))) (ys : List ℕ) (p' : PatternFits Δ' (κ.metavariable_skeleton m) ys) where
      same_size : size (fill μ (moved_by k (moved τ β)) (root (metavariable m) (pattern (μ m) ys))) ≡ size (fill μ (moved τ β) (root (metavariable m) (pattern (μ m) xs)))
      same_size =
          let (M, q) = body κ Γ (μ m) V v in
          ap size (inner_side k Δ' g' m ys p' V e v M q) ∙ size_renamed (pattern_renaming (μ m) ys (λ i. past_binders k (τ i))) M ∙ sym (size_renamed (pattern_renaming (μ m) xs τ) M) ∙ ap size (sym (left_side κ Γ Δ τ g m xs p β V e v M q))

      pub occurs_constant : (c : ℕ) (S : Spine) → RigidInSpine (root (metavariable m) (pattern (μ m) ys)) k S → fill μ (moved τ β) (root (metavariable m) (pattern (μ m) xs)) ≡ fill μ (moved τ β) (root (constant c) S) → ⊥
      occurs_constant c S o h =
          let a : size (fill μ (moved_by k (moved τ β)) (root (metavariable m) (pattern (μ m) ys))) ≤ spine_size (fill_spine μ (moved τ β) S) = size_rigid_spine μ (moved τ β) o in
          let b : size (fill μ (moved τ β) (root (metavariable m) (pattern (μ m) xs))) ≡ suc (spine_size (fill_spine μ (moved τ β) S)) = ap size h in
          less (same_size) a b
        where
          less : {x y z : ℕ} → x ≡ y → x ≤ z → y ≡ suc z → ⊥
          less p q r = omega arith

      pub occurs_variable : (c : ℕ) (S : Spine) → RigidInSpine (root (metavariable m) (pattern (μ m) ys)) k S → fill μ (moved τ β) (root (metavariable m) (pattern (μ m) xs)) ≡ fill μ (moved τ β) (root (variable c) S) → ⊥
      occurs_variable c S o h =
          let a : size (fill μ (moved_by k (moved τ β)) (root (metavariable m) (pattern (μ m) ys))) ≤ spine_size (fill_spine μ (moved τ β) S) = size_rigid_spine μ (moved τ β) o in
          let b : size (fill μ (moved τ β) (root (metavariable m) (pattern (μ m) xs))) ≡ suc (spine_size (fill_spine μ (moved τ β) S)) = ap size h in
          less (same_size) a b
        where
          less : {x y z : ℕ} → x ≡ y → x ≤ z → y ≡ suc z → ⊥
          less p q r = omega arith
