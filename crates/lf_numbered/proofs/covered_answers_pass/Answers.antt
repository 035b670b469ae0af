use Rattle.lf_numbered.proofs.CoveredAnswerPasses.{covered_answer_passes_inputs, covered_answers_pass_outputs}
use Rattle.lf_numbered.proofs.covered_answers_pass.Goals as goal

pub returns-clause-inputs : goal.returns-clause-inputs
returns-clause-inputs c = covered_answer_passes_inputs

pub returns-clause-outputs : goal.returns-clause-outputs
returns-clause-outputs c = covered_answers_pass_outputs
