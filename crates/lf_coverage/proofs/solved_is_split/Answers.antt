use Rattle.lf_coverage.proofs.TypedCases.{solved_is_split}
use Rattle.lf_coverage.proofs.solved_is_split.Goals as goal

pub returns : goal.returns
returns c = solved_is_split
