use Rattle.lf.proofs.Composition.{substitute_single}
use Rattle.lf.proofs.substitution_goes_through.Goals as goal

pub returns : goal.returns
returns c = substitute_single
