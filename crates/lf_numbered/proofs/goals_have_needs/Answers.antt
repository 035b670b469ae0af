use Rattle.lf_numbered.proofs.NumberedNeedsGoals.{clause_heads_are_typed, input_goal_has_needs, output_goal_has_needs}
use Rattle.lf_numbered.proofs.goals_have_needs.Goals as goal

pub returns-clause-heads : goal.returns-clause-heads
returns-clause-heads c = clause_heads_are_typed

pub returns-clause-inputs : goal.returns-clause-inputs
returns-clause-inputs c = input_goal_has_needs

pub returns-clause-outputs : goal.returns-clause-outputs
returns-clause-outputs c = output_goal_has_needs
