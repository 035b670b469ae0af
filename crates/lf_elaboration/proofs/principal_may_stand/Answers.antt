use Rattle.lf_elaboration.proofs.Bodies.{principal_stands as proved}
use Rattle.lf_elaboration.proofs.principal_may_stand.Goals as goal

pub returns : goal.returns
returns c = proved
