use Rattle.lf_numbered.proofs.NumberedBesideGiven.{numbered_output_goal_is_beside, numbered_strict_goals_are_beside, numbered_meet_store_is_ready}
use Rattle.lf_numbered.proofs.numbered_output_goal_is_beside.Goals as goal

pub returns-clause-goal : goal.returns-clause-goal
returns-clause-goal c = numbered_output_goal_is_beside

pub returns-clause-store : goal.returns-clause-store
returns-clause-store c = numbered_meet_store_is_ready

pub returns-clause-moded : goal.returns-clause-moded
returns-clause-moded c = numbered_strict_goals_are_beside
