use Rattle.lf_coverage.proofs.ExamplesCopyingSplit.{copy_is_split as proved}
use Rattle.lf_coverage.proofs.copy_is_split_by_heads.Goals as goal

pub returns : goal.returns
returns c = proved
