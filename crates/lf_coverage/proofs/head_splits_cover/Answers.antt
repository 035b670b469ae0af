use Rattle.lf_coverage.proofs.Runs.{head_splits_cover}
use Rattle.lf_coverage.proofs.head_splits_cover.Goals as goal

pub returns : goal.returns
returns c = head_splits_cover
