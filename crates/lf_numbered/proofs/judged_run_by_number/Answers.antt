use Rattle.lf_numbered.proofs.NumberedCandidatesExamples.{judged_is_split, raised_may_be_outside}
use Rattle.lf_numbered.proofs.NumberedCandidatesExamplesRun.{judged_is_covered, some_type_is_outside}
use Rattle.lf_numbered.proofs.judged_run_by_number.Goals as goal

pub returns-clause-split : goal.returns-clause-split
returns-clause-split c = judged_is_split

pub returns-clause-outside : goal.returns-clause-outside
returns-clause-outside c = some_type_is_outside

pub returns-clause-run : goal.returns-clause-run
returns-clause-run c = judged_is_covered

pub returns-clause-raised : goal.returns-clause-raised
returns-clause-raised c = raised_may_be_outside
