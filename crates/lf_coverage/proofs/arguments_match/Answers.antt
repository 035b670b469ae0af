use Rattle.lf_coverage.proofs.TermMatching.{arguments_match}
use Rattle.lf_coverage.proofs.arguments_match.Goals as goal

pub returns : goal.returns
returns c = arguments_match
