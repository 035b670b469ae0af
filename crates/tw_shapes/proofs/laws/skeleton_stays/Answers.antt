use Rattle.tw_shapes.proofs.Keeping.{skeleton-stays}
use Rattle.tw_shapes.proofs.laws.skeleton_stays.Goals as goal

pub returns : goal.returns
returns c = skeleton-stays
