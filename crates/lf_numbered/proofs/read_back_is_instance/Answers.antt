use Rattle.lf_numbered.proofs.WritingInstances.{read_back_is_instance as proved}
use Rattle.lf_numbered.proofs.read_back_is_instance.Goals as goal

pub returns : goal.returns
returns c = proved
