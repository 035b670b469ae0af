use Rattle.lf_coverage.proofs.ExamplesUnified.{plus_unified as proved}
use Rattle.lf_coverage.proofs.plus_is_split_by_unification.Goals as goal

pub returns : goal.returns
returns c = proved
