use Rattle.lf_numbered.proofs.NumberedMeets.{shared_has_place, no_place_shares_none}
use Rattle.lf_numbered.proofs.NumberedMeetsMoved.{identified_has_instances}
use Rattle.lf_numbered.proofs.shared_has_place.Goals as goal

pub returns-clause-place : goal.returns-clause-place
returns-clause-place c = shared_has_place

pub returns-clause-none : goal.returns-clause-none
returns-clause-none c = no_place_shares_none

pub returns-clause-instances : goal.returns-clause-instances
returns-clause-instances c = identified_has_instances
