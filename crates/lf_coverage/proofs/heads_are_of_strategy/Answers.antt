use Rattle.lf_coverage.proofs.StuckRuns.{heads_are_of_strategy}
use Rattle.lf_coverage.proofs.heads_are_of_strategy.Goals as goal

pub returns : goal.returns
returns c = heads_are_of_strategy
