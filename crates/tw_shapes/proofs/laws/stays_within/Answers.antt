use Rattle.tw_shapes.proofs.Keeping.{stays-within}
use Rattle.tw_shapes.proofs.laws.stays_within.Goals as goal

pub returns : goal.returns
returns c = stays-within
