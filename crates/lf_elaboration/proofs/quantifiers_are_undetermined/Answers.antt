use Rattle.lf_elaboration.proofs.Determined.{quantifiers_undetermined as proved}
use Rattle.lf_elaboration.proofs.quantifiers_are_undetermined.Goals as goal

pub returns : goal.returns
returns c = proved
