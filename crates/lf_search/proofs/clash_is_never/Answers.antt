use Rattle.lf_search.proofs.Offers.{clash_is_never}
use Rattle.lf_search.proofs.clash_is_never.Goals as goal

pub returns : goal.returns
returns c = clash_is_never
