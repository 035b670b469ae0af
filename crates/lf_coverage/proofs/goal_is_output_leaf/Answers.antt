use Rattle.lf_coverage.proofs.ExamplesLeaf.{goal_is_output_leaf}
use Rattle.lf_coverage.proofs.goal_is_output_leaf.Goals as goal

pub returns : goal.returns
returns c = goal_is_output_leaf
