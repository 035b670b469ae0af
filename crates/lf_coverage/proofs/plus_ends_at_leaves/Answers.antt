use Rattle.lf_coverage.proofs.ExamplesLeaves.{plus_ends_at_leaves}
use Rattle.lf_coverage.proofs.plus_ends_at_leaves.Goals as goal

pub returns : goal.returns
returns c = plus_ends_at_leaves
