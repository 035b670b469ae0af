use Rattle.lf_numbered.proofs.OwnStoresUnder.{fillings_stay_on_own_terms}
use Rattle.lf_numbered.proofs.fillings_stay_on_own_terms.Goals as goal

pub returns : goal.returns
returns c = fillings_stay_on_own_terms
