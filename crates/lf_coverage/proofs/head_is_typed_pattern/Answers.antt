use Rattle.lf_coverage.proofs.Leaves.{head_is_typed}
use Rattle.lf_coverage.proofs.head_is_typed_pattern.Goals as goal

pub returns : goal.returns
returns c = head_is_typed
