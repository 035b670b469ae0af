use Rattle.lf_elaboration.proofs.Differ.{equations_differ as proved}
use Rattle.lf_elaboration.proofs.equations_differ.Goals as goal

pub returns : goal.returns
returns c = proved
