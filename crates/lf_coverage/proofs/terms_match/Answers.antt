use Rattle.lf_coverage.proofs.TermMatching.{terms_match}
use Rattle.lf_coverage.proofs.terms_match.Goals as goal

pub returns : goal.returns
returns c = terms_match
