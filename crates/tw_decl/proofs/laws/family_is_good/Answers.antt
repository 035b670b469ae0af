use Rattle.tw_decl.proofs.GoodText.{good}
use Rattle.tw_decl.proofs.laws.family_is_good.Goals as goal

pub returns : goal.returns
returns c = good
