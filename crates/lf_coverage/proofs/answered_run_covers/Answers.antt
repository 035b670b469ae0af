use Rattle.lf_coverage.proofs.SubordinateRuns.{answered_run_covers, answered_run_covers_inputs}
use Rattle.lf_coverage.proofs.answered_run_covers.Goals as goal

pub returns-clause-goal : goal.returns-clause-goal
returns-clause-goal c = answered_run_covers

pub returns-clause-inputs : goal.returns-clause-inputs
returns-clause-inputs c = answered_run_covers_inputs
