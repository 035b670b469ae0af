use Rattle.lf_elaboration.proofs.Examples.{frees_ordered as proved}
use Rattle.lf_elaboration.proofs.frees_in_order.Goals as goal

pub returns : goal.returns
returns c = proved
