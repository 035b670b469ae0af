use Rattle.lf_elaboration.proofs.Counted.{counted as proved}
use Rattle.lf_elaboration.proofs.metavariables_are_counted.Goals as goal

pub returns : goal.returns
returns c = proved
