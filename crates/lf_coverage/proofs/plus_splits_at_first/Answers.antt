use Rattle.lf_coverage.proofs.ExamplesStrategy.{plus_splits_at_first}
use Rattle.lf_coverage.proofs.plus_splits_at_first.Goals as goal

pub returns : goal.returns
returns c = plus_splits_at_first
