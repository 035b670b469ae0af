use Rattle.lf_unification.proofs.Steps.{step_keeps_unifiers}
use Rattle.lf_unification.proofs.step_keeps_unifiers.Goals as goal

pub returns : goal.returns
returns c = λ Σ ok s s' w p. step_keeps_unifiers Σ ok w p
