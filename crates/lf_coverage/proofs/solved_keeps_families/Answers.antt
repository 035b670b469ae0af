use Rattle.lf_coverage.proofs.Families.{solved_keeps_families}
use Rattle.lf_coverage.proofs.solved_keeps_families.Goals as goal

pub returns : goal.returns
returns c = solved_keeps_families
