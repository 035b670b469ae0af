use Rattle.lf_unification.proofs.Waking.{left_over_stays as proved}
use Rattle.lf_unification.proofs.left_over_stays.Goals as goal

pub returns : goal.returns
returns c = proved
