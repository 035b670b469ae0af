use Rattle.lf_unification.proofs.Solving.{well_formed_answer}
use Rattle.lf_unification.proofs.well_formed_has_unifier.Goals as goal

pub returns : goal.returns
returns c = well_formed_answer
