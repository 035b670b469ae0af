use Rattle.lf_coverage.proofs.CandidateRuns.{candidate_is_in_set}
use Rattle.lf_coverage.proofs.candidate_is_in_set.Goals as goal

pub returns : goal.returns
returns c = candidate_is_in_set
