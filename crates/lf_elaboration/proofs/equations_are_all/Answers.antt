use Rattle.lf_elaboration.proofs.Examples.{equations_all as proved}
use Rattle.lf_elaboration.proofs.equations_are_all.Goals as goal

pub returns : goal.returns
returns c = proved
