use Rattle.lf_numbered.proofs.NumberedCandidatesRaised.{raised_is_candidate}
use Rattle.lf_numbered.proofs.NumberedCandidatesRaisedRun.{raised_is_covered}
use Rattle.lf_numbered.proofs.raised_is_candidate.Goals as goal

pub returns-clause-candidate : goal.returns-clause-candidate
returns-clause-candidate c = raised_is_candidate

pub returns-clause-run : goal.returns-clause-run
returns-clause-run c = raised_is_covered
