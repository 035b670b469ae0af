use Rattle.lf.proofs.AtOnce.{reduction_at_once}
use Rattle.lf.proofs.reduction_at_once.Goals as goal

pub returns : goal.returns
returns c = reduction_at_once
