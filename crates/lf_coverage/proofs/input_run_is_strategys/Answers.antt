use Rattle.lf_coverage.proofs.StuckRuns.{input_run_is_strategys}
use Rattle.lf_coverage.proofs.input_run_is_strategys.Goals as goal

pub returns : goal.returns
returns c = input_run_is_strategys
