use Rattle.lf_totality.proofs.ExamplesOrder.{heads_ordered as proved}
use Rattle.lf_totality.proofs.heads_are_ordered.Goals as goal

pub returns : goal.returns
returns c = proved
