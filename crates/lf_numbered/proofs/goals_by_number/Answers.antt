use Rattle.lf_numbered.proofs.WorkedCallsGoals.{missing_has_no_instance, output_goal_is_closed, some_output_is_unsplit}
use Rattle.lf_numbered.proofs.goals_by_number.Goals as goal

pub returns-clause-closed : goal.returns-clause-closed
returns-clause-closed c = output_goal_is_closed

pub returns-clause-some : goal.returns-clause-some
returns-clause-some c = some_output_is_unsplit

pub returns-clause-missing : goal.returns-clause-missing
returns-clause-missing c = missing_has_no_instance
