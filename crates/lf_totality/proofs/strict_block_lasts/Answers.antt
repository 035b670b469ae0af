use Rattle.lf_totality.proofs.ExamplesBlocks.{strict_block_lasts as proved}
use Rattle.lf_totality.proofs.strict_block_lasts.Goals as goal

pub returns : goal.returns
returns c = proved
