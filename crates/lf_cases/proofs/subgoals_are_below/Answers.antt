use Rattle.lf_cases.proofs.Subgoals.{subgoal_below}
use Rattle.lf_cases.proofs.subgoals_are_below.Goals as goal

pub returns : goal.returns
returns c = subgoal_below
