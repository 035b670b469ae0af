use Rattle.lf_coverage.proofs.Leaves.{leaves_cover}
use Rattle.lf_coverage.proofs.leaves_cover.Goals as goal

pub returns : goal.returns
returns c = leaves_cover
