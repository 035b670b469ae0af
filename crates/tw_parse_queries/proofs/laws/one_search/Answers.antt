use Rattle.tw_parse_queries.proofs.OneSearch.{one_search}
use Rattle.tw_parse_queries.proofs.laws.one_search.Goals as goal

pub returns : goal.returns
returns c = one_search
