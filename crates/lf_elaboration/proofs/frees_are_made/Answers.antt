use Rattle.lf_elaboration.proofs.Exact.{frees_made as proved}
use Rattle.lf_elaboration.proofs.frees_are_made.Goals as goal

pub returns : goal.returns
returns c = proved
