use Rattle.lf_numbered.proofs.NeededLeftUnsolved.{twice_has_no_tuple as proved}
use Rattle.lf_numbered.proofs.unsolved_left_has_no_tuple.Goals as goal

pub returns : goal.returns
returns c = proved
