use Rattle.lf_numbered.proofs.NumberedNeedsFor.{head_is_for, subgoal_is_for}
use Rattle.lf_numbered.proofs.patterns_are_for.Goals as goal

pub returns-clause-head : goal.returns-clause-head
returns-clause-head c = head_is_for

pub returns-clause-subgoal : goal.returns-clause-subgoal
returns-clause-subgoal c = subgoal_is_for
