use Rattle.tw_resolve.proofs.Whole.{skeletons_are_resolved}
use Rattle.tw_resolve.proofs.laws.skeletons_are_resolved.Goals as goal

pub returns : goal.returns
returns c = skeletons_are_resolved
