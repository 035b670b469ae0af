use Rattle.lf_numbered.proofs.NumberedCallsGoals.{numbered_input_goal_is_typed}
use Rattle.lf_numbered.proofs.input_goal_by_number.Goals as goal

pub returns : goal.returns
returns c = numbered_input_goal_is_typed
