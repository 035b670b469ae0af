use Rattle.tw_subord.proofs.Strengthened.{terms_use}
use Rattle.tw_subord.proofs.laws.terms_use_what_is_below.Goals as goal

pub returns : goal.returns
returns c = terms_use
