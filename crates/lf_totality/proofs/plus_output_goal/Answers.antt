use Rattle.lf_totality.proofs.ExamplesCases.{plus_output_goal}
use Rattle.lf_totality.proofs.plus_output_goal.Goals as goal

pub returns : goal.returns
returns c = plus_output_goal
