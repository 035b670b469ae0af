use Rattle.lf_search.proofs.Offers.{offer_is_there}
use Rattle.lf_search.proofs.offer_is_there.Goals as goal

pub returns : goal.returns
returns c = offer_is_there
