use Rattle.lf_search.proofs.Ends.{one_end, stays_within}
use Rattle.lf_search.proofs.ends_are_determined.Goals as goal

pub returns : goal.returns
returns c = λ sg cs budget bound ls ls' n n' agenda agenda'. (one_end sg cs budget bound ls ls' n n' agenda agenda', stays_within sg cs budget bound ls ls' n n' agenda agenda')
