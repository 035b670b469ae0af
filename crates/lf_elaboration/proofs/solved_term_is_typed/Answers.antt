use Rattle.lf_elaboration.proofs.SolvedTyped.{solved_term_typed as proved}
use Rattle.lf_elaboration.proofs.solved_term_is_typed.Goals as goal

pub returns : goal.returns
returns c = proved
