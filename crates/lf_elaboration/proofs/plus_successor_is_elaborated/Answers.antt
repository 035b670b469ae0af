use Rattle.lf_elaboration.proofs.Examples.{plus_successor as proved}
use Rattle.lf_elaboration.proofs.plus_successor_is_elaborated.Goals as goal

pub returns : goal.returns
returns c = proved
