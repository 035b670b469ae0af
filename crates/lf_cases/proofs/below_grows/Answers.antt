use Rattle.lf_cases.proofs.Subgoals.{below_grows}
use Rattle.lf_cases.proofs.below_grows.Goals as goal

pub returns : goal.returns
returns c = λ Σ Σ' W W' types kinds blocks a b. below_grows Σ Σ' W W' types kinds blocks
