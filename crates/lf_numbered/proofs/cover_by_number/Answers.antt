use Rattle.lf_numbered.proofs.NumberedCallsGoals.{covered_is_covered_goal}
use Rattle.lf_numbered.proofs.NumberedCallsLike.{reached_is_like_goal}
use Rattle.lf_numbered.proofs.NumberedCallsLaws.{answered_by_number_is_covered, missing_is_covered_by_none, missing_is_uncovered, reached_by_number_is_typed}
use Rattle.lf_numbered.proofs.cover_by_number.Goals as goal

pub returns-clause-covered : goal.returns-clause-covered
returns-clause-covered c = answered_by_number_is_covered

pub returns-clause-goal : goal.returns-clause-goal
returns-clause-goal c = covered_is_covered_goal

pub returns-clause-typed : goal.returns-clause-typed
returns-clause-typed c = reached_by_number_is_typed

pub returns-clause-none : goal.returns-clause-none
returns-clause-none c = missing_is_covered_by_none

pub returns-clause-uncovered : goal.returns-clause-uncovered
returns-clause-uncovered c = missing_is_uncovered

pub returns-clause-like : goal.returns-clause-like
returns-clause-like c = reached_is_like_goal
