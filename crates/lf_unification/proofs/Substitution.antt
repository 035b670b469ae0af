-- The substitution lemma where every metavariable has a skeleton.
use Rattle.std.proofs.Common.{ℕ, List, ◌∷◌, Some}
use Rattle.lf.specs.Substitution.{Image}
use Rattle.lf.specs.SkeletonTyping.{SubstitutionBySkeletons}
use Rattle.lf.specs.Skeletons.{context_skeletons}
use Rattle.lf.specs.Syntax.{Skeleton, Term, LfType, weaken}
use Rattle.lf.specs.Typing.{HasType, IsContext, IsSignature, IsTypedSubstitution, Signature, instantiate_type}
use Rattle.lf_unification.specs.Skeletons.{as_head_skeletons, total_skeletons}
use Rattle.lf.proofs.SubstitutionLemma as over

module _ (Σ : Signature) (μ : ℕ → Skeleton) (ok : IsSignature Σ) where
  abbrev pub SkeletonType : List LfType → LfType → Type 0
  SkeletonType = over.SkeletonType Σ (λ m. Some (μ m)) ok

  abbrev pub SkeletonContext : List LfType → Type 0
  SkeletonContext = over.SkeletonContext Σ (λ m. Some (μ m)) ok

  abbrev pub ReductionTyped : Skeleton → Type 0
  ReductionTyped = over.ReductionTyped Σ (λ m. Some (μ m)) ok

  pub SkeletonType-weakened : (G : List LfType) (B A : LfType) → SkeletonType G A → SkeletonType (B ∷ G) (weaken A)
  SkeletonType-weakened = over.SkeletonType-weakened Σ (λ m. Some (μ m)) ok

  pub skeleton_context_push : (G : List LfType) (B : LfType) → SkeletonContext G → SkeletonType G B → SkeletonContext (B ∷ G)
  skeleton_context_push = over.skeleton_context_push Σ (λ m. Some (μ m)) ok

  pub skeleton_context_of : (G : List LfType) → IsContext Σ G → SkeletonContext G
  skeleton_context_of = over.skeleton_context_of Σ (λ m. Some (μ m)) ok

  pub typed_substitution_by_skeletons : (G D : List LfType) (σ : ℕ → Image) → IsTypedSubstitution Σ G D σ → SubstitutionBySkeletons (as_head_skeletons (total_skeletons Σ μ)) (context_skeletons G) (context_skeletons D) σ
  typed_substitution_by_skeletons = over.typed_substitution_by_skeletons Σ (λ m. Some (μ m)) ok

  pub SkeletonType-instance : (G : List LfType) (A : LfType) (M : Term) (B : LfType) → HasType Σ G M A → SkeletonType (A ∷ G) B → SkeletonType G (instantiate_type A M B)
  SkeletonType-instance = over.SkeletonType-instance Σ (λ m. Some (μ m)) ok

  pub reduction_keeps_typing : (a : Skeleton) → ReductionTyped a
  reduction_keeps_typing = over.reduction_keeps_typing Σ (λ m. Some (μ m)) ok
