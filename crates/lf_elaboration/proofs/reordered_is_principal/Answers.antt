use Rattle.lf_elaboration.proofs.Reordered.{reordered_is_principal as proved}
use Rattle.lf_elaboration.proofs.reordered_is_principal.Goals as goal

pub returns : goal.returns
returns c = proved
