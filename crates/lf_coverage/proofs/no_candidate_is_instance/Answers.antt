use Rattle.lf_coverage.proofs.NoCandidate.{no_candidate_is_instance}
use Rattle.lf_coverage.proofs.no_candidate_is_instance.Goals as goal

pub returns : goal.returns
returns c = no_candidate_is_instance
