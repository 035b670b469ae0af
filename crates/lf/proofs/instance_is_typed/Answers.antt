use Rattle.lf.proofs.Regular.{rules_typed}
use Rattle.lf.proofs.instance_is_typed.Goals as goal

pub returns : goal.returns
returns c = rules_typed
