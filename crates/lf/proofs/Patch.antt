-- Values of some variables, with variables outside the context for the others.
use Rattle.std.proofs.Common.{◌≡◌, ℕ, zero, suc, List, [], ◌∷◌, refl, sym, ap, ◌∙◌, subst}
use Rattle.std.specs.Prelude.{Bool, true, false}
use Rattle.lf.specs.Syntax.{LfType, Skeleton, skeleton, weaken}
use Rattle.lf.specs.Substitution.{Image, keep, substitute_type, reduce}
use Rattle.lf.specs.SkeletonTyping.{SkeletonAt, ImageSkeleton}
use Rattle.lf.specs.Typing.{Signature, TypeAt, IsContext, IsSignature}
use Rattle.lf.specs.Variables.{Values, SameOn}
use Rattle.lf.specs.Typing.{ImageHasType}
use Rattle.lf.proofs.TypeLaws.{skeleton_renamed, skeleton_substituted}
use Rattle.lf.specs.Skeletons.{constant_skeletons}
use Rattle.lf.proofs.Agreement.{agree_on_type}
use Rattle.lf.proofs.Partial.{skeletons_beside, PartialSubstitution, ImageHasType-has_skeleton, skeleton_context_of_beside}

abbrev pub pick {ℓ} : {A : Type ℓ} → Bool → A → A → A
pick true x y = x
pick false x y = y

-- the variable j of what is outside the context
abbrev pub beyond : List LfType → ℕ → ℕ
beyond [] j = j
beyond (A ∷ D) j = suc (beyond D j)

abbrev pub patch : (ℕ → Bool) → List LfType → (ℕ → Image) → ℕ → Image
patch U D σ i = pick (U i) (σ i) (keep (beyond D i))

pub patch_same : (U : ℕ → Bool) (D : List LfType) (σ : ℕ → Image) → SameOn U σ (patch U D σ)
patch_same U D σ i e = sym (ap (λ b. pick b (σ i) (keep (beyond D i))) e)

beyond_at : (P : List Skeleton) (D : List LfType) (i : ℕ) (t : Skeleton) → SkeletonAt P i t → SkeletonAt (skeletons_beside P D) (beyond D i) t
beyond_at P [] i t g = g
beyond_at P (A ∷ D) i t g = beyond_at P D i t g

pub skeleton_beside_has_variable : (G : List LfType) (i : ℕ) (t : Skeleton) → SkeletonAt (skeletons_beside [] G) i t → (A : LfType) × TypeAt G i A × (skeleton A ≡ t)
skeleton_beside_has_variable [] i t g = absurd g
skeleton_beside_has_variable (B ∷ G) zero t e = (weaken B, refl, skeleton_renamed suc B ∙ e)
skeleton_beside_has_variable (B ∷ G) (suc i) t g = let (A, h, e) = skeleton_beside_has_variable G i t g in (weaken A, (A, h, refl), skeleton_renamed suc A ∙ e)

module _ (Σ : Signature) (ok : IsSignature Σ) where
  patch_has_skeleton : (U : ℕ → Bool) (C D : List LfType) (σ : ℕ → Image) → Values Σ U C D σ → (b : Bool) (i : ℕ) → U i ≡ b → (t : Skeleton) → SkeletonAt (skeletons_beside [] C) i t → ImageSkeleton (constant_skeletons Σ) (skeletons_beside (skeletons_beside [] C) D) (pick b (σ i) (keep (beyond D i))) t
  patch_has_skeleton U C D σ v true i u t g = let (A, h, e) = skeleton_beside_has_variable C i t g in subst (ImageSkeleton (constant_skeletons Σ) (skeletons_beside (skeletons_beside [] C) D) (σ i)) (skeleton_substituted reduce σ A ∙ e) (ImageHasType-has_skeleton Σ ok (skeletons_beside [] C) D (σ i) (substitute_type reduce σ A) (v.typed i A h u))
  patch_has_skeleton U C D σ v false i u t g = beyond_at (skeletons_beside [] C) D i t g

  pub patched : (U : ℕ → Bool) (C D : List LfType) (σ : ℕ → Image) → IsContext Σ C → IsContext Σ D → Values Σ U C D σ → PartialSubstitution Σ ok [] (skeletons_beside [] C) U C D (patch U D σ)
  patched U C D σ c d v = record {
    typed = λ i A g u. subst (ImageHasType Σ D (patch U D σ i)) (agree_on_type reduce U σ (patch U D σ) A (patch_same U D σ) (v.closed i A g u)) (subst (λ x. ImageHasType Σ D x (substitute_type reduce σ A)) (patch_same U D σ i u) (v.typed i A g u));
    sk = λ i t g. patch_has_skeleton U C D σ v (U i) i refl t g;
    source_skeletons = skeleton_context_of_beside Σ ok [] C c;
    target_skeletons = skeleton_context_of_beside Σ ok (skeletons_beside [] C) D d;
  }

  pub patch_values : (U : ℕ → Bool) (C D : List LfType) (σ : ℕ → Image) → Values Σ U C D σ → Values Σ U C D (patch U D σ)
  patch_values U C D σ v = record {
    typed = λ i A g u. subst (ImageHasType Σ D (patch U D σ i)) (agree_on_type reduce U σ (patch U D σ) A (patch_same U D σ) (v.closed i A g u)) (subst (λ x. ImageHasType Σ D x (substitute_type reduce σ A)) (patch_same U D σ i u) (v.typed i A g u));
    closed = v.closed;
  }
