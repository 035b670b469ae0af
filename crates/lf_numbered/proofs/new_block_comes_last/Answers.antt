use Rattle.lf_numbered.proofs.ExamplesEntries.{new_block_comes_last as proved}
use Rattle.lf_numbered.proofs.new_block_comes_last.Goals as goal

pub returns : goal.returns
returns c = proved
