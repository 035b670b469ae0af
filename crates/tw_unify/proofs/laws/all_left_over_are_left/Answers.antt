use Rattle.tw_unify.proofs.Watching.{left_overs_are_left}
use Rattle.tw_unify.proofs.laws.all_left_over_are_left.Goals as goal

pub returns : goal.returns
returns c = left_overs_are_left
