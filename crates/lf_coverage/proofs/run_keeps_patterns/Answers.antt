use Rattle.lf_coverage.proofs.PatternRuns.{input_run_has_patterns, run_keeps_patterns}
use Rattle.lf_coverage.proofs.run_keeps_patterns.Goals as goal

pub returns-clause-run : goal.returns-clause-run
returns-clause-run c = run_keeps_patterns

pub returns-clause-inputs : goal.returns-clause-inputs
returns-clause-inputs c = input_run_has_patterns
