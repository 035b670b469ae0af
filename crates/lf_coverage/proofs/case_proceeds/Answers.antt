use Rattle.lf_coverage.proofs.NeverStuck.{case_proceeds}
use Rattle.lf_coverage.proofs.case_proceeds.Goals as goal

pub returns : goal.returns
returns c = case_proceeds
