use Rattle.lf_unification.proofs.Total.{inversion_total}
use Rattle.lf_unification.proofs.inversion_is_total.Goals as goal

pub returns : goal.returns
returns c = inversion_total
