use Rattle.lf_search.proofs.Ends.{out_stands, query_stands}
use Rattle.lf_search.proofs.query_stands_at_end.Goals as goal

pub returns : goal.returns
returns c = λ es q budget bound leaves. ((λ end tries r. query_stands es q budget r), out_stands es q budget bound leaves)
