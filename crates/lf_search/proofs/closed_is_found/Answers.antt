use Rattle.lf_search.proofs.LeafAnswer.{closed_is_found}
use Rattle.lf_search.proofs.closed_is_found.Goals as goal

pub returns : goal.returns
returns c = closed_is_found
