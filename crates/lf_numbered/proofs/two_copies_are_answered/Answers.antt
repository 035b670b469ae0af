use Rattle.lf_numbered.proofs.NumberedAnswersExamples.{two_copies_are_apart, two_copies_are_stuck}
use Rattle.lf_numbered.proofs.two_copies_are_answered.Goals as goal

pub returns-clause-apart : goal.returns-clause-apart
returns-clause-apart c = two_copies_are_apart

pub returns-clause-stuck : goal.returns-clause-stuck
returns-clause-stuck c = two_copies_are_stuck
