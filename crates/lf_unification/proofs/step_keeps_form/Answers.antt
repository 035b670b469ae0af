use Rattle.lf_unification.proofs.Runs.{step_form}
use Rattle.lf_unification.proofs.step_keeps_form.Goals as goal

pub returns : goal.returns
returns c = λ Σ ok s s' w p. step_form Σ ok w p
