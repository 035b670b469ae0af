-- What a pattern uses at the covered places, where values are put in.
use Rattle.std.proofs.Common.{ℕ, zero, suc, List, [], ◌∷◌, refl}
use Rattle.std.specs.Prelude.{Bool, true, false}
use Rattle.lf.specs.Syntax.{Term, Spine, nil, app, LfType, pi, atom}
use Rattle.lf.specs.Substitution.{Image, keep, put, rename_image, lift, substitute, substitute_spine, substitute_type, reduce}
use Rattle.lf.specs.Variables.{under, Uses, ImageUses}
use Rattle.lf.proofs.Kept.{SubUses, substitute_uses_type}
use Rattle.lf.proofs.Uses.{uses_renamed}
use Rattle.lf_checks.specs.Ground.{UsesGoal}
use Rattle.lf_checks.specs.Marks.{UsesPlaces}

sub_uses_lifted : (U V : ℕ → Bool) (σ : ℕ → Image) → SubUses U V σ → SubUses (under U) (under V) (lift σ)
sub_uses_lifted U V σ h zero e = refl
sub_uses_lifted U V σ h (suc i) e = weakened (σ i) (h i e)
  where
    weakened : (y : Image) → ImageUses V y → ImageUses (under V) (rename_image suc y)
    weakened (keep j) u = u
    weakened (put a N) u = uses_renamed V (under V) suc N (λ j e. e) u

term_uses : (U V : ℕ → Bool) (σ : ℕ → Image) (M : Term) → SubUses U V σ → Uses U M → Uses V (substitute reduce σ M)
term_uses U V σ M h u = (substitute_uses_type U V σ (atom zero (app M nil)) h (u, tt)).0

places_use : (U V : ℕ → Bool) (σ : ℕ → Image) (m : List Bool) (S : Spine) → SubUses U V σ → UsesPlaces U m S → UsesPlaces V m (substitute_spine reduce σ S)
places_use U V σ [] S h u = tt
places_use U V σ (b ∷ m) nil h u = tt
places_use U V σ (true ∷ m) (app M S) h (u, us) = (term_uses U V σ M h u, places_use U V σ m S h us)
places_use U V σ (false ∷ m) (app M S) h u = places_use U V σ m S h u

pub goal_uses : (U V : ℕ → Bool) (σ : ℕ → Image) (m : List Bool) (A : LfType) → SubUses U V σ → UsesGoal U m A → UsesGoal V m (substitute_type reduce σ A)
goal_uses U V σ m (pi A B) h (u, us) = (substitute_uses_type U V σ A h u, goal_uses (under U) (under V) (lift σ) m B (sub_uses_lifted U V σ h) us)
goal_uses U V σ m (atom a S) h u = places_use U V σ m S h u
