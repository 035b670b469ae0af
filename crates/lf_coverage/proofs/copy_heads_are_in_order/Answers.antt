use Rattle.lf_coverage.proofs.ExamplesOrder.{copy_heads_in_order as proved}
use Rattle.lf_coverage.proofs.copy_heads_are_in_order.Goals as goal

pub returns : goal.returns
returns c = proved
