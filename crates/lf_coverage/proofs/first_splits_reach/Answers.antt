use Rattle.lf_coverage.proofs.StuckRuns.{first_splits_reach}
use Rattle.lf_coverage.proofs.first_splits_reach.Goals as goal

pub returns : goal.returns
returns c = first_splits_reach
