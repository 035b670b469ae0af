use Rattle.tw_clause.proofs.Subgoals.{subgoals_read}
use Rattle.tw_clause.proofs.laws.subgoals_are_read.Goals as goal

pub returns : goal.returns
returns c = subgoals_read
