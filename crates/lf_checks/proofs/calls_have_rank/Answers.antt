use Rattle.lf_checks.proofs.Ways.{rank_exists}
use Rattle.lf_checks.proofs.calls_have_rank.Goals as goal

pub returns : goal.returns
returns c = rank_exists
