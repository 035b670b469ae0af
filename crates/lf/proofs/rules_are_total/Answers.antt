use Rattle.lf.proofs.Rules.{rules_total}
use Rattle.lf.proofs.rules_are_total.Goals as goal

pub returns : goal.returns
returns c = rules_total
