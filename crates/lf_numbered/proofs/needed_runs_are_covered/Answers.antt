use Rattle.lf_numbered.proofs.NeededRuns.{head_is_beside_closed, needed_strategy_run_is_covered}
use Rattle.lf_numbered.proofs.needed_runs_are_covered.Goals as goal

pub returns-clause-closed : goal.returns-clause-closed
returns-clause-closed c = head_is_beside_closed

pub returns-clause-covered : goal.returns-clause-covered
returns-clause-covered c = needed_strategy_run_is_covered
