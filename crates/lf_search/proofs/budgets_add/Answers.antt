use Rattle.lf_search.proofs.Calls.{budgets_add}
use Rattle.lf_search.proofs.budgets_add.Goals as goal

pub returns : goal.returns
returns c = budgets_add
