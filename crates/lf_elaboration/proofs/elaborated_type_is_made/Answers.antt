use Rattle.lf_elaboration.proofs.Made.{elaborated_type_made as proved}
use Rattle.lf_elaboration.proofs.elaborated_type_is_made.Goals as goal

pub returns : goal.returns
returns c = proved
