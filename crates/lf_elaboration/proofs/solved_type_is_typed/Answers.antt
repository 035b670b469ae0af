use Rattle.lf_elaboration.proofs.SolvedTyped.{solved_type_typed as proved}
use Rattle.lf_elaboration.proofs.solved_type_is_typed.Goals as goal

pub returns : goal.returns
returns c = proved
