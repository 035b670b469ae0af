use Rattle.lf_numbered.proofs.NumberedReached.{split_case_holds_back, reached_holds_back, reached_missing_is_uncovered}
use Rattle.lf_numbered.proofs.reached_holds_for_goal.Goals as goal

pub returns-clause-split : goal.returns-clause-split
returns-clause-split c = split_case_holds_back

pub returns-clause-reached : goal.returns-clause-reached
returns-clause-reached c = reached_holds_back

pub returns-clause-uncovered : goal.returns-clause-uncovered
returns-clause-uncovered c = reached_missing_is_uncovered
