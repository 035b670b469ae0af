use Rattle.lf_numbered.proofs.Numbering.{numbered_has_same_instances as proved}
use Rattle.lf_numbered.proofs.numbered_has_same_instances.Goals as goal

pub returns : goal.returns
returns c = proved
