use Rattle.lf_coverage.proofs.ExamplesRuns.{plus_run_covers, plus_cases_are_answer}
use Rattle.lf_coverage.proofs.plus_run_covers.Goals as goal

pub returns-clause-covers : goal.returns-clause-covers
returns-clause-covers c = plus_run_covers

pub returns-clause-answer : goal.returns-clause-answer
returns-clause-answer c = plus_cases_are_answer
