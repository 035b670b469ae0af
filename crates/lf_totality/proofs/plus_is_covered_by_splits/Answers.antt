use Rattle.lf_totality.proofs.ExamplesCases.{plus_by_splits}
use Rattle.lf_totality.proofs.plus_is_covered_by_splits.Goals as goal

pub returns : goal.returns
returns c = plus_by_splits
