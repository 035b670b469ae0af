use Rattle.tw_putting.proofs.ForCallers.{deep_spine, deep_term, deep_type}
use Rattle.tw_putting.proofs.laws.deep_results_are_deep.Goals as goal

pub returns : goal.returns
returns c = λ s k. (deep_term s k, deep_spine s k, deep_type s k)
