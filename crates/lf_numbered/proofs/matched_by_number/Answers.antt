use Rattle.lf_numbered.proofs.NumberedCallsLaws.{apart_covers_none, instance_covers}
use Rattle.lf_numbered.proofs.matched_by_number.Goals as goal

pub returns-clause-covers : goal.returns-clause-covers
returns-clause-covers c = instance_covers

pub returns-clause-apart : goal.returns-clause-apart
returns-clause-apart c = apart_covers_none
