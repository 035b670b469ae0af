use Rattle.lf_numbered.proofs.NumberedCallsCopying.{copies_are_goals, copies_are_matched, copies_are_reached}
use Rattle.lf_numbered.proofs.copies_are_answered.Goals as goal

pub returns-clause-matched : goal.returns-clause-matched
returns-clause-matched c = copies_are_matched

pub returns-clause-reached : goal.returns-clause-reached
returns-clause-reached c = copies_are_reached

pub returns-clause-goals : goal.returns-clause-goals
returns-clause-goals c = copies_are_goals
