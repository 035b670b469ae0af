-- Nothing moves where it is renamed by none.
use Rattle.std.proofs.Common.{◌≡◌, ℕ, zero, List, [], ◌∷◌, length, refl, ap, ap₂, ◌∙◌}
use Rattle.lf.specs.Syntax.{Spine, LfType, rename_spine, rename_type}
use Rattle.lf.specs.AtOnce.{shift_by, lift_renaming_by}
use Rattle.lf.proofs.AtOnce.{rename_spine_identity}
use Rattle.lf_cases.specs.OutputGoal.{renumber}
use Rattle.lf_cases.proofs.Raised.{rename_identity_type}
use Rattle.lf_coverage.proofs.RaisedTyped.{lift_none}

pub renumbered_still : (D : List LfType) → renumber (shift_by zero) D ≡ D
renumbered_still [] = refl
renumbered_still (A ∷ D) = ap₂ (λ B E. B ∷ E) (ap (λ f. rename_type f A) (lift_none (length D)) ∙ rename_identity_type A) (renumbered_still D)

pub spine_still : (k : ℕ) (S : Spine) → rename_spine (lift_renaming_by k (shift_by zero)) S ≡ S
spine_still k S = ap (λ f. rename_spine f S) (lift_none k) ∙ rename_spine_identity S
