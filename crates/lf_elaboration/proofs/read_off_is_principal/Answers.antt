use Rattle.lf_elaboration.proofs.Principal.{read_off_principal as proved}
use Rattle.lf_elaboration.proofs.read_off_is_principal.Goals as goal

pub returns : goal.returns
returns c = proved
