use Rattle.lf_elaboration.proofs.Bodies.{solved_body as proved}
use Rattle.lf_elaboration.proofs.solved_body_is_typed.Goals as goal

pub returns : goal.returns
returns c = proved
