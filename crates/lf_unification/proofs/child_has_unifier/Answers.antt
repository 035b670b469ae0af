use Rattle.lf_unification.proofs.Solving.{child_unifier}
use Rattle.lf_unification.proofs.child_has_unifier.Goals as goal

pub returns : goal.returns
returns c = child_unifier
