use Rattle.lf_coverage.proofs.CasesOf.{solved_run_covers, solved_run_covers_inputs}
use Rattle.lf_coverage.proofs.solved_run_covers.Goals as goal

pub returns-clause-goal : goal.returns-clause-goal
returns-clause-goal c = solved_run_covers

pub returns-clause-inputs : goal.returns-clause-inputs
returns-clause-inputs c = solved_run_covers_inputs
