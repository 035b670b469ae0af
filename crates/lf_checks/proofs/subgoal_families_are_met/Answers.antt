use Rattle.lf_checks.proofs.Called.{subgoals_met}
use Rattle.lf_checks.proofs.subgoal_families_are_met.Goals as goal

pub returns : goal.returns
returns c = subgoals_met
