use Rattle.lf_numbered.proofs.NumberedNeedsLaws.{missing_is_honest, needed_run_is_covered, needed_split_is_answer, reached_is_decided, reached_may_be_split}
use Rattle.lf_numbered.proofs.needed_answers.Goals as goal

pub returns-clause-decided : goal.returns-clause-decided
returns-clause-decided c = reached_is_decided

pub returns-clause-candidate : goal.returns-clause-candidate
returns-clause-candidate c = reached_may_be_split

pub returns-clause-split : goal.returns-clause-split
returns-clause-split c = needed_split_is_answer

pub returns-clause-covered : goal.returns-clause-covered
returns-clause-covered c = needed_run_is_covered

pub returns-clause-missing : goal.returns-clause-missing
returns-clause-missing c = missing_is_honest
