use Rattle.lf_coverage.proofs.Subordinate.{below_ones_take_below, heads_quantify_below, inputs_quantify_below}
use Rattle.lf_coverage.proofs.heads_quantify_below.Goals as goal

pub returns-clause-arguments : goal.returns-clause-arguments
returns-clause-arguments c = below_ones_take_below

pub returns-clause-heads : goal.returns-clause-heads
returns-clause-heads c = heads_quantify_below

pub returns-clause-inputs : goal.returns-clause-inputs
returns-clause-inputs c = inputs_quantify_below
