use Rattle.lf_numbered.proofs.LeftExamples.{circle_is_left, circle_is_true, older_is_given, older_is_head}
use Rattle.lf_numbered.proofs.circle_is_left.Goals as goal

pub returns-clause-left : goal.returns-clause-left
returns-clause-left c = circle_is_left

pub returns-clause-tuple : goal.returns-clause-tuple
returns-clause-tuple c = circle_is_true

pub returns-clause-head : goal.returns-clause-head
returns-clause-head c = older_is_head

pub returns-clause-given : goal.returns-clause-given
returns-clause-given c = older_is_given
