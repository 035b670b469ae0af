use Rattle.lf_coverage.proofs.Leaves.{leaf_is_instance}
use Rattle.lf_coverage.proofs.leaf_is_instance_case.Goals as goal

pub returns : goal.returns
returns c = leaf_is_instance
