use Rattle.lf_numbered.proofs.NeededMade.{made_by_solving}
use Rattle.lf_numbered.proofs.left_metavariable_is_made_by_solving.Goals as goal

pub returns : goal.returns
returns c = made_by_solving
