use Rattle.tw_decl.proofs.Good.{good_from_accepted}
use Rattle.tw_decl.proofs.laws.good_from_is_accepted.Goals as goal

pub returns : goal.returns
returns c = good_from_accepted
