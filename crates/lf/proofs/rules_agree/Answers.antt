use Rattle.lf.proofs.Rules.{rules_agree, rules_agree_reduction}
use Rattle.lf.proofs.rules_agree.Goals as goal

pub returns : goal.returns
returns c = (λ σ M R d. rules_agree d, λ a N R S d. rules_agree_reduction d)
