use Rattle.lf_elaboration.proofs.Exact.{total as proved}
use Rattle.lf_elaboration.proofs.skeleton_is_elaborated.Goals as goal

pub returns : goal.returns
returns c = proved
