use Rattle.lf_coverage.proofs.PatternHeadRuns.{input_splits_are_never_stuck, input_splits_have_patterns, splits_by_patterns_keep_them}
use Rattle.lf_coverage.proofs.splits_by_patterns_keep_them.Goals as goal

pub returns-clause-run : goal.returns-clause-run
returns-clause-run c = splits_by_patterns_keep_them

pub returns-clause-inputs : goal.returns-clause-inputs
returns-clause-inputs c = input_splits_have_patterns

pub returns-clause-never_stuck : goal.returns-clause-never_stuck
returns-clause-never_stuck c = input_splits_are_never_stuck
