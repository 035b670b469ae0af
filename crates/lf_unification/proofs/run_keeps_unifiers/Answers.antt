use Rattle.lf_unification.proofs.Runs.{run_form, run_keeps_unifiers}
use Rattle.lf_unification.proofs.run_keeps_unifiers.Goals as goal

pub returns : goal.returns
returns c = λ Σ ok s s' w r. (run_keeps_unifiers Σ ok w r, run_form Σ ok w r)
