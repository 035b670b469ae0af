use Rattle.lf_numbered.proofs.SameCaseHolds.{same_case_holds_same, split_lists_hold_same}
use Rattle.lf_numbered.proofs.SameCaseExamples.{open_holds_more}
use Rattle.lf_numbered.proofs.same_case_holds_same.Goals as goal

pub returns-clause-case : goal.returns-clause-case
returns-clause-case c = same_case_holds_same

pub returns-clause-list : goal.returns-clause-list
returns-clause-list c = split_lists_hold_same

pub returns-clause-more : goal.returns-clause-more
returns-clause-more c = open_holds_more
