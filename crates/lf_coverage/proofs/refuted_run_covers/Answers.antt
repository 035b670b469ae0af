use Rattle.lf_coverage.proofs.RefutedSplits.{refuted_run_covers}
use Rattle.lf_coverage.proofs.refuted_run_covers.Goals as goal

pub returns : goal.returns
returns c = refuted_run_covers
