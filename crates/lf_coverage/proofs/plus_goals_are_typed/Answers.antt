use Rattle.lf_coverage.proofs.ExamplesTyped.{plus_goals_are_typed}
use Rattle.lf_coverage.proofs.plus_goals_are_typed.Goals as goal

pub returns : goal.returns
returns c = plus_goals_are_typed
