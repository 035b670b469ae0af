use Rattle.lf_coverage.proofs.OutputRuns.{solved_run_covers_outputs, solved_run_answers_outputs, solved_run_gives_outputs, solved_runs_give_outputs}
use Rattle.lf_coverage.proofs.solved_run_covers_outputs.Goals as goal

pub returns-clause-goal : goal.returns-clause-goal
returns-clause-goal c = solved_run_covers_outputs

pub returns-clause-answer : goal.returns-clause-answer
returns-clause-answer c = solved_run_answers_outputs

pub returns-clause-constant : goal.returns-clause-constant
returns-clause-constant c = solved_run_gives_outputs

pub returns-clause-every : goal.returns-clause-every
returns-clause-every c = solved_runs_give_outputs
