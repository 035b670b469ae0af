use Rattle.lf_checks.proofs.Ways.{no_way_back}
use Rattle.lf_checks.proofs.rank_forbids_cycles.Goals as goal

pub returns : goal.returns
returns c = no_way_back
