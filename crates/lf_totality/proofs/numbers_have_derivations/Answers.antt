use Rattle.lf_totality.proofs.ExamplesBlocks.{numbers_have_derivations as proved}
use Rattle.lf_totality.proofs.numbers_have_derivations.Goals as goal

pub returns : goal.returns
returns c = proved
