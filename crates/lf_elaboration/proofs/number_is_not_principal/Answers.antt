use Rattle.lf_elaboration.proofs.Examples.{number_not_principal as proved}
use Rattle.lf_elaboration.proofs.number_is_not_principal.Goals as goal

pub returns : goal.returns
returns c = proved
