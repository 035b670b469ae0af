use Rattle.tw_parse.proofs.Once.{decided}
use Rattle.tw_parse.proofs.laws.readings_are_decided.Goals as goal

pub returns : goal.returns
returns c = decided
