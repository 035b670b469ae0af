use Rattle.lf_coverage.proofs.ExamplesOrder.{numbers_get_deep as proved}
use Rattle.lf_coverage.proofs.numbers_get_deep.Goals as goal

pub returns : goal.returns
returns c = proved
