use Rattle.lf_totality.proofs.ExamplesSplits.{entry_instance}
use Rattle.lf_totality.proofs.entry_instance_stands.Goals as goal

pub returns : goal.returns
returns c = entry_instance
