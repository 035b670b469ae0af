-- Substitutions that keep skeletons compose.
use Rattle.std.proofs.Common.{ℕ, List}
use Rattle.lf.specs.Syntax.{Skeleton}
use Rattle.lf.specs.Substitution.{Image, keep, put, substitute_image, after}
use Rattle.lf.specs.SkeletonTyping.{HeadSkeletons, ImageSkeleton, SubstitutionBySkeletons}
use Rattle.lf.proofs.SkeletonTyping.{substitution_keeps_skeletons}

image_composed : (κ : HeadSkeletons) (Γ Δ : List Skeleton) (τ : ℕ → Image) (x : Image) (t : Skeleton) → SubstitutionBySkeletons κ Γ Δ τ → ImageSkeleton κ Γ x t → ImageSkeleton κ Δ (substitute_image τ x) t
image_composed κ Γ Δ τ (keep i) t s g = s i t g
image_composed κ Γ Δ τ (put a N) t s (e, n) = (e, substitution_keeps_skeletons κ Γ Δ τ N a s n)

pub composed : (κ : HeadSkeletons) (Γ Γ' Δ : List Skeleton) (σ τ : ℕ → Image) → SubstitutionBySkeletons κ Γ Γ' σ → SubstitutionBySkeletons κ Γ' Δ τ → SubstitutionBySkeletons κ Γ Δ (after τ σ)
composed κ Γ Γ' Δ σ τ s t i u g = image_composed κ Γ' Δ τ (σ i) u t (s i u g)
