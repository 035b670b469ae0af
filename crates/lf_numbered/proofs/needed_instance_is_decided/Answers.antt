use Rattle.lf_numbered.proofs.NumberedNeedsDecided.{needed_instance_covers, needed_instance_is_decided}
use Rattle.lf_numbered.proofs.needed_instance_is_decided.Goals as goal

pub returns-clause-decided : goal.returns-clause-decided
returns-clause-decided c = needed_instance_is_decided

pub returns-clause-covers : goal.returns-clause-covers
returns-clause-covers c = needed_instance_covers
