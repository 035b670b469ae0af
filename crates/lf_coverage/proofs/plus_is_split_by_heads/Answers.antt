use Rattle.lf_coverage.proofs.Examples.{plus_split as proved}
use Rattle.lf_coverage.proofs.plus_is_split_by_heads.Goals as goal

pub returns : goal.returns
returns c = proved
