use Rattle.lf_elaboration.proofs.SolvedKinds.{solved_kind_typed as proved}
use Rattle.lf_elaboration.proofs.solved_kind_is_typed.Goals as goal

pub returns : goal.returns
returns c = proved
