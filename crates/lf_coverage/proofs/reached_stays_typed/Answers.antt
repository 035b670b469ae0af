use Rattle.lf_coverage.proofs.TypedCases.{reached_stays_typed}
use Rattle.lf_coverage.proofs.reached_stays_typed.Goals as goal

pub returns : goal.returns
returns c = reached_stays_typed
