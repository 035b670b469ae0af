use Rattle.lf_numbered.proofs.NewInstance.{new_instance_is_of_new_block as proved}
use Rattle.lf_numbered.proofs.new_instance_is_of_new_block.Goals as goal

pub returns : goal.returns
returns c = proved
