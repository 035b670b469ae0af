use Rattle.lf.proofs.Rules.{rules_deterministic}
use Rattle.lf.proofs.rules_are_functional.Goals as goal

pub returns : goal.returns
returns c = λ σ M R R' d e. rules_deterministic d e
