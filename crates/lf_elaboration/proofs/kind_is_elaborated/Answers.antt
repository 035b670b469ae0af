use Rattle.lf_elaboration.proofs.Examples.{kind_elaborated as proved}
use Rattle.lf_elaboration.proofs.kind_is_elaborated.Goals as goal

pub returns : goal.returns
returns c = proved
