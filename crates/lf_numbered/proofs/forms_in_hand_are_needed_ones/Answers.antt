use Rattle.lf_numbered.proofs.EntryTermsInputs.{free_case_is_numbered, input_goal_is_numbered}
use Rattle.lf_numbered.proofs.NeededForms.{entries_are_free_from}
use Rattle.lf_numbered.proofs.forms_in_hand_are_needed_ones.Goals as goal

pub returns-clause-free : goal.returns-clause-free
returns-clause-free c = entries_are_free_from

pub returns-clause-case : goal.returns-clause-case
returns-clause-case c = free_case_is_numbered

pub returns-clause-goal : goal.returns-clause-goal
returns-clause-goal c = input_goal_is_numbered
