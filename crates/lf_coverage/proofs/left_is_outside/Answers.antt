use Rattle.lf_coverage.proofs.LeftOutside.{left_is_outside}
use Rattle.lf_coverage.proofs.left_is_outside.Goals as goal

pub returns : goal.returns
returns c = left_is_outside
