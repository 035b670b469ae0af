use Rattle.lf_elaboration.proofs.OfSolved.{of_solved as proved}
use Rattle.lf_elaboration.proofs.unifier_is_of_solved.Goals as goal

pub returns : goal.returns
returns c = proved
