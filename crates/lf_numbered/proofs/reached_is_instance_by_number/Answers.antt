use Rattle.lf_numbered.proofs.NumberedNeedsReached.{reached_is_numbered_instance}
use Rattle.lf_numbered.proofs.reached_is_instance_by_number.Goals as goal

pub returns : goal.returns
returns c = reached_is_numbered_instance
