use Rattle.lf_elaboration.proofs.Exact.{had as proved}
use Rattle.lf_elaboration.proofs.elaborated_had_skeleton.Goals as goal

pub returns : goal.returns
returns c = proved
