use Rattle.lf_elaboration.proofs.Examples.{hole_raised as proved}
use Rattle.lf_elaboration.proofs.hole_is_raised.Goals as goal

pub returns : goal.returns
returns c = proved
