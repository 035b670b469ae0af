use Rattle.lf_elaboration.proofs.Unified.{instance_completion as proved}
use Rattle.lf_elaboration.proofs.instance_is_completion.Goals as goal

pub returns : goal.returns
returns c = proved
