use Rattle.lf.proofs.Rules.{rules_total_reduction}
use Rattle.lf.proofs.reduction_rules_are_total.Goals as goal

pub returns : goal.returns
returns c = λ κ Δ a N S b. rules_total_reduction κ a Δ N S b
