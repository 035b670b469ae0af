use Rattle.lf_totality.proofs.ExamplesMissing.{goal_not_missing}
use Rattle.lf_totality.proofs.goal_is_not_missing.Goals as goal

pub returns : goal.returns
returns c = goal_not_missing
