use Rattle.lf_coverage.proofs.Unified.{solved_gives}
use Rattle.lf_coverage.proofs.solved_gives_case.Goals as goal

pub returns : goal.returns
returns c = solved_gives
