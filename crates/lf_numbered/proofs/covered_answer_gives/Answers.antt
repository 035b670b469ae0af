use Rattle.lf_numbered.proofs.CoveredAnswerGives.{covered_answer_gives_inputs, covered_answer_gives_outputs, numbered_input_goal_is_beside_families, numbered_output_goal_is_beside_families, tested_are_all_below}
use Rattle.lf_numbered.proofs.NumberedCandidatesGoals.{answers_give_outputs}
use Rattle.lf_numbered.proofs.covered_answer_gives.Goals as goal

pub returns-clause-inputs_beside : goal.returns-clause-inputs_beside
returns-clause-inputs_beside c = numbered_input_goal_is_beside_families

pub returns-clause-outputs_beside : goal.returns-clause-outputs_beside
returns-clause-outputs_beside c = numbered_output_goal_is_beside_families

pub returns-clause-inputs : goal.returns-clause-inputs
returns-clause-inputs c = covered_answer_gives_inputs

pub returns-clause-answers : goal.returns-clause-answers
returns-clause-answers c = answers_give_outputs

pub returns-clause-outputs : goal.returns-clause-outputs
returns-clause-outputs c = covered_answer_gives_outputs

pub returns-clause-below : goal.returns-clause-below
returns-clause-below c = tested_are_all_below
