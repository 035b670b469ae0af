-- The arguments of a pattern: bound variables up to eta. One that is put in for the newest variable only renames.
use Rattle.std.proofs.Common.{◌≡◌, ℕ, zero, suc, List, ◌∷◌, refl, subst}
use Rattle.std.specs.Prelude.{Bool, true, false, not, Option, Some, None}
use Rattle.lf.specs.Syntax.{variable, Term, nil, LfType, Skeleton, rename, rename_type}
use Rattle.lf.specs.Substitution.{single, substitute, substitute_type, reduce}
use Rattle.lf.specs.Eta.{eta_long}
use Rattle.lf.specs.SkeletonTyping.{HeadSkeletons, SkeletonAt, TermSkeleton, TypeBySkeletons}
use Rattle.lf.specs.Skeletons.{constant_skeletons, family_skeletons}
use Rattle.lf.specs.Typing.{Signature, IsSignature}
use Rattle.lf.specs.Variables.{at_variable}
use Rattle.lf.proofs.Eta.{EtaLike, Fits, eta_renames}
use Rattle.lf.proofs.EtaTypes.{SameForm, eta_form, eta_type}
use Rattle.lf_checks.specs.Strict.{is_bound, eta_at}
use Rattle.lf_checks.specs.Tests.{both, is_in}
use Rattle.lf_checks.proofs.EtaTest.{both_l, both_r, is_eta}
use Rattle.lf_coverage.proofs.Choices.{not_true}

pub bound_argument : (B : ℕ → Bool) (seen : List ℕ) (M : Term) (o : Option ℕ) → is_bound B seen M o ≡ true → (y : ℕ) × (a : Skeleton) × (o ≡ Some y) × (B y ≡ true) × (is_in y seen ≡ false) × (M ≡ eta_long a (variable y))
bound_argument B seen M None e = absurd cc
bound_argument B seen M (Some y) e =
    let r : both (B y) (not (is_in y seen)) ≡ true = both_r (eta_at zero y M) (both (B y) (not (is_in y seen))) e in
    let (a, q) = is_eta y M (both_l (eta_at zero y M) (both (B y) (not (is_in y seen))) e) in
    (y, a, refl, both_l (B y) (not (is_in y seen)) r, not_true (is_in y seen) (both_r (B y) (not (is_in y seen)) r), q)

-- the variable put in has the skeleton of the newest one
pub newest_at : (Δ : List Skeleton) (k : ℕ) (t : Skeleton) → SkeletonAt Δ k t → (i : ℕ) (u : Skeleton) → SkeletonAt (t ∷ Δ) i u → SkeletonAt Δ (at_variable k i) u
newest_at Δ k t g zero u e = subst (SkeletonAt Δ k) e g
newest_at Δ k t g (suc i) u e = e

module _ (Δ : List Skeleton) (t b : Skeleton) (k : ℕ) (g : SkeletonAt Δ k t) (f : SameForm b t) where
  like : EtaLike (λ c. Unit {0}) (single t (eta_long b (variable k))) (at_variable k)
  like zero = (tt, eta_form b t (variable k) nil f)
  like (suc i) = refl

  fit : Fits (t ∷ Δ) (single t (eta_long b (variable k)))
  fit zero u e = e
  fit (suc i) u e = tt

  pub argument_renames : (κ : HeadSkeletons) (N : Term) (u : Skeleton) → TermSkeleton κ (t ∷ Δ) N u → substitute reduce (single t (eta_long b (variable k))) N ≡ rename (at_variable k) N
  argument_renames κ N u n = eta_renames κ (t ∷ Δ) Δ (single t (eta_long b (variable k))) (at_variable k) N u like fit (newest_at Δ k t g) n

  pub argument_renames_type : (Σ : Signature) → IsSignature Σ → (B : LfType) → TypeBySkeletons (family_skeletons Σ) (constant_skeletons Σ) (t ∷ Δ) B → substitute_type reduce (single t (eta_long b (variable k))) B ≡ rename_type (at_variable k) B
  argument_renames_type Σ ok B n = eta_type Σ ok (t ∷ Δ) Δ (single t (eta_long b (variable k))) (at_variable k) B like fit (newest_at Δ k t g) n
