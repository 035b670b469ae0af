use Rattle.lf_elaboration.proofs.Counted.{spots_all as proved}
use Rattle.lf_elaboration.proofs.spots_are_all.Goals as goal

pub returns : goal.returns
returns c = proved
