use Rattle.tw_subord.proofs.Strengthened.{rows_subordinate}
use Rattle.tw_subord.proofs.laws.rows_are_subordination.Goals as goal

pub returns : goal.returns
returns c = rows_subordinate
