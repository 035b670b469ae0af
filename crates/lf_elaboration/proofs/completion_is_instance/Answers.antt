use Rattle.lf_elaboration.proofs.Instances.{completion_instance as proved}
use Rattle.lf_elaboration.proofs.completion_is_instance.Goals as goal

pub returns : goal.returns
returns c = proved
