use Rattle.lf_coverage.proofs.NoCandidate.{no_candidate_matches}
use Rattle.lf_coverage.proofs.no_candidate_matches.Goals as goal

pub returns : goal.returns
returns c = no_candidate_matches
