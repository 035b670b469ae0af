-- What is typed is typed by skeletons, whatever skeletons metavariables have.
use Rattle.std.proofs.Common.{◌≡◌, ℕ, zero, suc, List, [], ◌∷◌, Some, sym, ap, ◌∙◌}
use Rattle.lf.specs.SkeletonTyping.{SkeletonAt, HeadSkeleton, KindBySkeletons, SpineSkeleton, TermSkeleton, TypeBySkeletons}
use Rattle.lf.specs.Skeletons.{context_skeletons, family_skeletons, type_skeleton}
use Rattle.lf.specs.Syntax.{Head, Kind, Skeleton, Spine, Term, LfType, constant, metavariable, skeleton, variable}
use Rattle.lf.specs.Typing.{HeadHasType, SpineType, HasType, IsKind, IsType, Signature}
use Rattle.lf_unification.specs.Skeletons.{as_head_skeletons, total_skeletons}
use Rattle.lf.proofs.ToSkeletons.{variable_has_skeleton, typed_spine_has_skeleton_with, typed_has_skeleton_with, kind_by_skeletons_with, type_by_skeletons_with}

pub SkeletonAt-once : (Γ : List Skeleton) (i : ℕ) (t u : Skeleton) → SkeletonAt Γ i t → SkeletonAt Γ i u → t ≡ u
SkeletonAt-once [] i t u g h = absurd g
SkeletonAt-once (a ∷ Γ) zero t u g h = sym g ∙ h
SkeletonAt-once (a ∷ Γ) (suc i) t u g h = SkeletonAt-once Γ i t u g h

module _ (Σ : Signature) (μ : ℕ → Skeleton) where
  pub HeadHasType-has_skeleton : (G : List LfType) (h : Head) (A : LfType) → HeadHasType Σ G h A → HeadSkeleton (as_head_skeletons (total_skeletons Σ μ)) (context_skeletons G) h (skeleton A)
  HeadHasType-has_skeleton G (constant c) A e = ap type_skeleton e
  HeadHasType-has_skeleton G (variable i) A g = variable_has_skeleton G i A g
  HeadHasType-has_skeleton G (metavariable m) A g = absurd g

  pub typed_has_skeleton : (G : List LfType) (M : Term) (A : LfType) → HasType Σ G M A → TermSkeleton (as_head_skeletons (total_skeletons Σ μ)) (context_skeletons G) M (skeleton A)
  typed_has_skeleton = typed_has_skeleton_with Σ (λ m. Some (μ m))

  pub typed_spine_has_skeleton : (G : List LfType) (S : Spine) (A C : LfType) → SpineType Σ G S A C → SpineSkeleton (as_head_skeletons (total_skeletons Σ μ)) (context_skeletons G) S (skeleton A) (skeleton C)
  typed_spine_has_skeleton = typed_spine_has_skeleton_with Σ (λ m. Some (μ m))

  pub type_by_skeletons : (G : List LfType) (A : LfType) → IsType Σ G A → TypeBySkeletons (family_skeletons Σ) (as_head_skeletons (total_skeletons Σ μ)) (context_skeletons G) A
  type_by_skeletons = type_by_skeletons_with Σ (λ m. Some (μ m))

  pub kind_by_skeletons : (G : List LfType) (K : Kind) → IsKind Σ G K → KindBySkeletons (family_skeletons Σ) (as_head_skeletons (total_skeletons Σ μ)) (context_skeletons G) K
  kind_by_skeletons = kind_by_skeletons_with Σ (λ m. Some (μ m))
