use Rattle.lf_totality.proofs.ExamplesSplits.{blocks_stay_apart as proved}
use Rattle.lf_totality.proofs.blocks_stay_apart.Goals as goal

pub returns : goal.returns
returns c = proved
