use Rattle.lf_totality.proofs.ExamplesSplits.{instances_stand as proved}
use Rattle.lf_totality.proofs.instances_stand.Goals as goal

pub returns : goal.returns
returns c = proved
