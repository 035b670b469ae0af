use Rattle.lf_elaboration.proofs.Made.{elaborated_skeletons as proved}
use Rattle.lf_elaboration.proofs.elaborated_has_skeletons.Goals as goal

pub returns : goal.returns
returns c = proved
