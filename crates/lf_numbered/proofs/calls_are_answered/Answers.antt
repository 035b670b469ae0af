use Rattle.lf_numbered.proofs.NumberedCallsExamples.{applied_is_open, deep_is_too_deep, open_is_answered, open_is_missing}
use Rattle.lf_numbered.proofs.NumberedCallsLeft.{leaving_is_outside}
use Rattle.lf_numbered.proofs.calls_are_answered.Goals as goal

pub returns-clause-open : goal.returns-clause-open
returns-clause-open c = open_is_answered

pub returns-clause-missing : goal.returns-clause-missing
returns-clause-missing c = open_is_missing

pub returns-clause-applied : goal.returns-clause-applied
returns-clause-applied c = applied_is_open

pub returns-clause-left : goal.returns-clause-left
returns-clause-left c = leaving_is_outside

pub returns-clause-deep : goal.returns-clause-deep
returns-clause-deep c = deep_is_too_deep
