use Rattle.lf_coverage.proofs.SubordinateRuns.{run_quantifies_below, input_run_quantifies_below}
use Rattle.lf_coverage.proofs.run_quantifies_below.Goals as goal

pub returns-clause-goal : goal.returns-clause-goal
returns-clause-goal c = run_quantifies_below

pub returns-clause-inputs : goal.returns-clause-inputs
returns-clause-inputs c = input_run_quantifies_below
