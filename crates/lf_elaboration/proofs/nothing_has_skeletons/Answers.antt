use Rattle.lf_elaboration.proofs.Made.{nothing_skeletons as proved}
use Rattle.lf_elaboration.proofs.nothing_has_skeletons.Goals as goal

pub returns : goal.returns
returns c = proved
