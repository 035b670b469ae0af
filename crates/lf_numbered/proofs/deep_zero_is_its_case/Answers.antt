use Rattle.lf_numbered.proofs.DeepExamples.{deep_zero_is_its_case, deeper_is_no_case, entry_is_case_of}
use Rattle.lf_numbered.proofs.deep_zero_is_its_case.Goals as goal

pub returns-clause-entry : goal.returns-clause-entry
returns-clause-entry c = entry_is_case_of

pub returns-clause-deep : goal.returns-clause-deep
returns-clause-deep c = deep_zero_is_its_case

pub returns-clause-deeper : goal.returns-clause-deeper
returns-clause-deeper c = deeper_is_no_case
