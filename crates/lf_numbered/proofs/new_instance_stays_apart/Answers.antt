use Rattle.lf_numbered.proofs.StaysApart.{new_instance_stays_apart as proved}
use Rattle.lf_numbered.proofs.new_instance_stays_apart.Goals as goal

pub returns : goal.returns
returns c = proved
