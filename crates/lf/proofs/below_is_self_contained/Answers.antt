use Rattle.lf.proofs.Declared.{below_self_contained}
use Rattle.lf.proofs.below_is_self_contained.Goals as goal

pub returns : goal.returns
returns c = below_self_contained
