use Rattle.lf_unification.proofs.Sides.{run_origin}
use Rattle.lf_unification.proofs.sides_stay.Goals as goal

pub returns : goal.returns
returns c = λ Σ ok s s' w r e i. run_origin Σ ok w r e i
