use Rattle.lf_unification.proofs.Reach.{not_reached}
use Rattle.lf_unification.proofs.binding_is_not_circular.Goals as goal

pub returns : goal.returns
returns c = not_reached
