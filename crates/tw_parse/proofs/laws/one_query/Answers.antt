use Rattle.tw_parse.proofs.OneReading.{one_query}
use Rattle.tw_parse.proofs.laws.one_query.Goals as goal

pub returns : goal.returns
returns c = one_query
