use Rattle.lf_coverage.proofs.CandidateRunCovers.{candidate_run_covers_beside, candidate_run_covers_closed, candidate_run_covers, candidate_run_covers_outputs, candidate_run_answers_outputs, closed_sets_are_within}
use Rattle.lf_coverage.proofs.candidate_run_covers.Goals as goal

pub returns-clause-beside : goal.returns-clause-beside
returns-clause-beside c = candidate_run_covers_beside

pub returns-clause-within : goal.returns-clause-within
returns-clause-within c = closed_sets_are_within

pub returns-clause-closed : goal.returns-clause-closed
returns-clause-closed c = candidate_run_covers_closed

pub returns-clause-runs : goal.returns-clause-runs
returns-clause-runs c = candidate_run_covers

pub returns-clause-closed_outputs : goal.returns-clause-closed_outputs
returns-clause-closed_outputs c = candidate_run_covers_outputs

pub returns-clause-outputs : goal.returns-clause-outputs
returns-clause-outputs c = candidate_run_answers_outputs
