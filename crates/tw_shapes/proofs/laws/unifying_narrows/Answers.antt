use Rattle.tw_shapes.proofs.Keeping.{unifying-narrows}
use Rattle.tw_shapes.proofs.laws.unifying_narrows.Goals as goal

pub returns : goal.returns
returns c = unifying-narrows
