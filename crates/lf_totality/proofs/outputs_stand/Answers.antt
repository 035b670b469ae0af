use Rattle.lf_totality.proofs.ExamplesSplits.{outputs_stand as proved}
use Rattle.lf_totality.proofs.outputs_stand.Goals as goal

pub returns : goal.returns
returns c = proved
