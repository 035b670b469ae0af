use Rattle.lf_coverage.proofs.ExamplesStrategy.{heads_are_strategys}
use Rattle.lf_coverage.proofs.heads_are_strategys.Goals as goal

pub returns : goal.returns
returns c = heads_are_strategys
