use Rattle.lf_numbered.proofs.NewBlockTyped.{new_block_is_typed as proved}
use Rattle.lf_numbered.proofs.new_block_is_typed.Goals as goal

pub returns : goal.returns
returns c = proved
