use Rattle.lf_numbered.proofs.NeededRunsExamples.{entry_alone_covers, successor_is_covered}
use Rattle.lf_numbered.proofs.needed_runs_are_worked.Goals as goal

pub returns-clause-successor : goal.returns-clause-successor
returns-clause-successor c = successor_is_covered

pub returns-clause-entry : goal.returns-clause-entry
returns-clause-entry c = entry_alone_covers
