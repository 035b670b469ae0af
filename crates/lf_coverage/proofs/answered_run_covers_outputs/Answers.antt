use Rattle.lf_coverage.proofs.AnsweredOutputs.{answered_run_is_solved, output_goal_quantifies_below, answered_run_covers_outputs, answered_run_gives_outputs}
use Rattle.lf_coverage.proofs.answered_run_covers_outputs.Goals as goal

pub returns-clause-solved : goal.returns-clause-solved
returns-clause-solved c = answered_run_is_solved

pub returns-clause-below : goal.returns-clause-below
returns-clause-below c = output_goal_quantifies_below

pub returns-clause-goal : goal.returns-clause-goal
returns-clause-goal c = answered_run_covers_outputs

pub returns-clause-constant : goal.returns-clause-constant
returns-clause-constant c = answered_run_gives_outputs
