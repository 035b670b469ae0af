use Rattle.lf_numbered.proofs.NumberedSplitsExamples.{open_is_split_by_entry}
use Rattle.lf_numbered.proofs.NumberedSplitsExamplesRun.{open_is_covered}
use Rattle.lf_numbered.proofs.open_is_split_by_entry.Goals as goal

pub returns-clause-split : goal.returns-clause-split
returns-clause-split c = open_is_split_by_entry

pub returns-clause-run : goal.returns-clause-run
returns-clause-run c = open_is_covered
