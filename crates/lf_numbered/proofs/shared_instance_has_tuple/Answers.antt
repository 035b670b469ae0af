use Rattle.lf_numbered.proofs.SharedTuples.{shared_instance_has_tuple, met_has_tuple, met_shares_tuple, shared_tuple_is_not_apart}
use Rattle.lf_numbered.proofs.shared_instance_has_tuple.Goals as goal

pub returns-clause-tuple : goal.returns-clause-tuple
returns-clause-tuple c = shared_instance_has_tuple

pub returns-clause-ground : goal.returns-clause-ground
returns-clause-ground c = met_has_tuple

pub returns-clause-met : goal.returns-clause-met
returns-clause-met c = met_shares_tuple

pub returns-clause-apart : goal.returns-clause-apart
returns-clause-apart c = shared_tuple_is_not_apart
