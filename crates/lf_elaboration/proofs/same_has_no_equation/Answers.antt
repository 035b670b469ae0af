use Rattle.lf_elaboration.proofs.Examples.{same_has_none as proved}
use Rattle.lf_elaboration.proofs.same_has_no_equation.Goals as goal

pub returns : goal.returns
returns c = proved
