use Rattle.lf_closures.proofs.Steps.{closure_applies, closure_value}
use Rattle.lf_closures.proofs.variable_enters_closure.Goals as goal

pub returns : goal.returns
returns w e i S a N c n q f = (closure_applies e i S a N c n q f, closure_value e i S a N c n q)
