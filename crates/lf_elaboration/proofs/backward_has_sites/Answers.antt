use Rattle.lf_elaboration.proofs.Examples.{backward_sites as proved}
use Rattle.lf_elaboration.proofs.backward_has_sites.Goals as goal

pub returns : goal.returns
returns c = proved
