use Rattle.lf_coverage.proofs.StuckRuns.{input_run_is_never_stuck}
use Rattle.lf_coverage.proofs.input_run_is_never_stuck.Goals as goal

pub returns : goal.returns
returns c = input_run_is_never_stuck
