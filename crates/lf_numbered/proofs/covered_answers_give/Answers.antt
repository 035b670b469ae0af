use Rattle.lf_numbered.proofs.CoveredAnswerExamples.{entry_answer_gives_outputs, plus_answer_gives_inputs}
use Rattle.lf_numbered.proofs.CoveredAnswerWorked.{entry_answer_passes, plus_answer_passes}
use Rattle.lf_numbered.proofs.covered_answers_give.Goals as goal

pub returns-clause-inputs : goal.returns-clause-inputs
returns-clause-inputs c = plus_answer_gives_inputs

pub returns-clause-outputs : goal.returns-clause-outputs
returns-clause-outputs c = entry_answer_gives_outputs

pub returns-clause-inputs_pass : goal.returns-clause-inputs_pass
returns-clause-inputs_pass c = plus_answer_passes

pub returns-clause-outputs_pass : goal.returns-clause-outputs_pass
returns-clause-outputs_pass c = entry_answer_passes
