use Rattle.lf_coverage.proofs.ExamplesStrategy.{successor_is_not_stuck}
use Rattle.lf_coverage.proofs.successor_is_not_stuck.Goals as goal

pub returns : goal.returns
returns c = successor_is_not_stuck
