use Rattle.lf_numbered.proofs.EntryTermsInputs.{clause_is_closed, input_goal_is_beside_by_number, beside_has_typed_places}
use Rattle.lf_numbered.proofs.input_goal_is_beside_by_number.Goals as goal

pub returns-clause-closed : goal.returns-clause-closed
returns-clause-closed c = clause_is_closed

pub returns-clause-goal : goal.returns-clause-goal
returns-clause-goal c = input_goal_is_beside_by_number

pub returns-clause-places : goal.returns-clause-places
returns-clause-places c = beside_has_typed_places
