use Rattle.lf_coverage.proofs.Unified.{never_gives}
use Rattle.lf_coverage.proofs.never_gives_none.Goals as goal

pub returns : goal.returns
returns c = never_gives
