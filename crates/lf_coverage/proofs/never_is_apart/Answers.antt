use Rattle.lf_coverage.proofs.Meeting.{never_is_apart}
use Rattle.lf_coverage.proofs.never_is_apart.Goals as goal

pub returns : goal.returns
returns c = never_is_apart
