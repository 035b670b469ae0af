use Rattle.lf_numbered.proofs.NumberedReachedInstances.{split_case_is_numbered_instance, listed_is_numbered_instance}
use Rattle.lf_numbered.proofs.split_is_instance_by_number.Goals as goal

pub returns-clause-split : goal.returns-clause-split
returns-clause-split c = split_case_is_numbered_instance

pub returns-clause-listed : goal.returns-clause-listed
returns-clause-listed c = listed_is_numbered_instance
