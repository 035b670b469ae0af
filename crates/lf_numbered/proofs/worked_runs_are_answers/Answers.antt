use Rattle.lf_numbered.proofs.WorkedCallsAnswers.{worked_runs_are_answers}
use Rattle.lf_numbered.proofs.worked_runs_are_answers.Goals as goal

pub returns : goal.returns
returns c = worked_runs_are_answers
