use Rattle.lf_coverage.proofs.ExamplesOutputs.{plus_outputs_are_typed, copy_outputs_are_typed, open_goal_is_untyped, entry_goal_is_untyped, plus_outputs_are_covered}
use Rattle.lf_coverage.proofs.outputs_are_typed.Goals as goal

pub returns-clause-plus : goal.returns-clause-plus
returns-clause-plus c = plus_outputs_are_typed

pub returns-clause-copy : goal.returns-clause-copy
returns-clause-copy c = copy_outputs_are_typed

pub returns-clause-unclosed : goal.returns-clause-unclosed
returns-clause-unclosed c = open_goal_is_untyped

pub returns-clause-entry : goal.returns-clause-entry
returns-clause-entry c = entry_goal_is_untyped

pub returns-clause-covered : goal.returns-clause-covered
returns-clause-covered c = plus_outputs_are_covered
