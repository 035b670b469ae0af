use Rattle.lf_elaboration.proofs.Placed.{context_reordered as proved}
use Rattle.lf_elaboration.proofs.context_is_reordered.Goals as goal

pub returns : goal.returns
returns c = proved
