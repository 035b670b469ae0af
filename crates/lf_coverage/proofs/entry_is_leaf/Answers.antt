use Rattle.lf_coverage.proofs.ExamplesLeaf.{entry_is_leaf}
use Rattle.lf_coverage.proofs.entry_is_leaf.Goals as goal

pub returns : goal.returns
returns c = entry_is_leaf
