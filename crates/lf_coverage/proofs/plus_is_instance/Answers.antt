use Rattle.lf_coverage.proofs.ExamplesMatching.{plus_is_instance as proved}
use Rattle.lf_coverage.proofs.plus_is_instance.Goals as goal

pub returns : goal.returns
returns c = proved
