use Rattle.lf_totality.proofs.ExamplesCases.{copy_output_goal}
use Rattle.lf_totality.proofs.copy_output_goal.Goals as goal

pub returns : goal.returns
returns c = copy_output_goal
