use Rattle.lf_coverage.proofs.ExamplesStrategy.{cases_are_strategys}
use Rattle.lf_coverage.proofs.cases_are_strategys.Goals as goal

pub returns : goal.returns
returns c = cases_are_strategys
