use Rattle.lf_coverage.proofs.ExamplesStrategy.{solved_is_not_stuck}
use Rattle.lf_coverage.proofs.solved_is_not_stuck.Goals as goal

pub returns : goal.returns
returns c = solved_is_not_stuck
