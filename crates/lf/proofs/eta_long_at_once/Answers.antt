use Rattle.lf.proofs.AtOnce.{eta_at_once}
use Rattle.lf.proofs.eta_long_at_once.Goals as goal

pub returns : goal.returns
returns c = eta_at_once
