use Rattle.lf_elaboration.proofs.Examples.{full_vector as proved}
use Rattle.lf_elaboration.proofs.full_is_elaborated.Goals as goal

pub returns : goal.returns
returns c = proved
