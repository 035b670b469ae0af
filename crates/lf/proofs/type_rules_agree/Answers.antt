use Rattle.lf.proofs.Rules.{rules_agree_type, rules_agree_kind}
use Rattle.lf.proofs.type_rules_agree.Goals as goal

pub returns : goal.returns
returns c = (λ σ A B d. rules_agree_type d, λ σ K L d. rules_agree_kind d)
