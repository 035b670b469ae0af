use Rattle.lf_coverage.proofs.TypedCases.{meet_store_is_ready}
use Rattle.lf_coverage.proofs.meet_store_is_ready.Goals as goal

pub returns : goal.returns
returns c = meet_store_is_ready
