use Rattle.lf.proofs.Depth.{renaming_keeps_depth, renaming_keeps_type_depth, renaming_keeps_kind_depth}
use Rattle.lf.proofs.TypeLaws.{skeleton_renamed}
use Rattle.lf.proofs.renaming_keeps_shape.Goals as goal

pub returns : goal.returns
returns c = λ ρ. (renaming_keeps_depth ρ, renaming_keeps_type_depth ρ, renaming_keeps_kind_depth ρ, skeleton_renamed ρ)
