use Rattle.lf_elaboration.proofs.Full.{full_no_equation as proved}
use Rattle.lf_elaboration.proofs.full_has_no_equation.Goals as goal

pub returns : goal.returns
returns c = proved
