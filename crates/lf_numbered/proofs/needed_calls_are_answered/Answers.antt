use Rattle.lf_numbered.proofs.NumberedAnswers.{needed_is_answered, reached_is_answered}
use Rattle.lf_numbered.proofs.needed_calls_are_answered.Goals as goal

pub returns-clause-needed : goal.returns-clause-needed
returns-clause-needed c = needed_is_answered

pub returns-clause-reached : goal.returns-clause-reached
returns-clause-reached c = reached_is_answered
