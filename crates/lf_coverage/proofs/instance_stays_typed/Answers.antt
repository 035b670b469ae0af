use Rattle.lf_coverage.proofs.TypedCases.{instance_stays_typed}
use Rattle.lf_coverage.proofs.instance_stays_typed.Goals as goal

pub returns : goal.returns
returns c = instance_stays_typed
