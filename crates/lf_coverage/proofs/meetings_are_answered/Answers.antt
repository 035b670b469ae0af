use Rattle.lf_coverage.proofs.ExamplesMeetings.{meetings_are_answered, successor_is_apart}
use Rattle.lf_coverage.proofs.meetings_are_answered.Goals as goal

pub returns-clause-answered : goal.returns-clause-answered
returns-clause-answered c = meetings_are_answered

pub returns-clause-apart : goal.returns-clause-apart
returns-clause-apart c = successor_is_apart
