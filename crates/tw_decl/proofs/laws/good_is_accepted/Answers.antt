use Rattle.tw_decl.proofs.Good.{good_accepted}
use Rattle.tw_decl.proofs.laws.good_is_accepted.Goals as goal

pub returns : goal.returns
returns c = good_accepted
