use Rattle.lf_search.proofs.Ends.{search_then}
use Rattle.lf_search.proofs.searches_compose.Goals as goal

pub returns : goal.returns
returns c = λ sg cs agenda agenda' agenda'' leaves leaves' tries tries' r q. search_then sg cs r q
