use Rattle.lf_coverage.proofs.ExamplesCoveredOutputRuns.{plus_goal_is_beside, plus_candidate_run_gives, open_goal_is_typed_case}
use Rattle.lf_coverage.proofs.plus_goal_is_beside.Goals as goal

pub returns-clause-beside : goal.returns-clause-beside
returns-clause-beside c = plus_goal_is_beside

pub returns-clause-covered : goal.returns-clause-covered
returns-clause-covered c = plus_candidate_run_gives

pub returns-clause-alone : goal.returns-clause-alone
returns-clause-alone c = open_goal_is_typed_case
