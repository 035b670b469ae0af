use Rattle.lf_coverage.proofs.IndicesRuns.{indexed_run_has_patterns, indexed_run_is_never_stuck, indexed_run_proceeds, indexed_run_splits_by_patterns}
use Rattle.lf_coverage.proofs.indexed_run_has_patterns.Goals as goal

pub returns-clause-splits : goal.returns-clause-splits
returns-clause-splits c = indexed_run_splits_by_patterns

pub returns-clause-cases : goal.returns-clause-cases
returns-clause-cases c = indexed_run_has_patterns

pub returns-clause-never_stuck : goal.returns-clause-never_stuck
returns-clause-never_stuck c = indexed_run_is_never_stuck

pub returns-clause-proceeds : goal.returns-clause-proceeds
returns-clause-proceeds c = indexed_run_proceeds
