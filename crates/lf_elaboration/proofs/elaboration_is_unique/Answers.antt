use Rattle.lf_elaboration.proofs.Once.{unique as proved}
use Rattle.lf_elaboration.proofs.elaboration_is_unique.Goals as goal

pub returns : goal.returns
returns c = proved
