use Rattle.lf_coverage.proofs.Candidates.{candidate_is_variable}
use Rattle.lf_coverage.proofs.candidate_is_variable.Goals as goal

pub returns : goal.returns
returns c = candidate_is_variable
