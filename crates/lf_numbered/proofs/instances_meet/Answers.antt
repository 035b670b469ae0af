use Rattle.lf_numbered.proofs.NumberedCallsShared.{instance_is_not_apart, instance_shares, missing_is_no_instance}
use Rattle.lf_numbered.proofs.instances_meet.Goals as goal

pub returns-clause-shares : goal.returns-clause-shares
returns-clause-shares c = instance_shares

pub returns-clause-apart : goal.returns-clause-apart
returns-clause-apart c = instance_is_not_apart

pub returns-clause-missing : goal.returns-clause-missing
returns-clause-missing c = missing_is_no_instance
