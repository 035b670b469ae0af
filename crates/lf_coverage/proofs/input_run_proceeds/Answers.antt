use Rattle.lf_coverage.proofs.StuckRuns.{input_run_proceeds}
use Rattle.lf_coverage.proofs.input_run_proceeds.Goals as goal

pub returns : goal.returns
returns c = input_run_proceeds
