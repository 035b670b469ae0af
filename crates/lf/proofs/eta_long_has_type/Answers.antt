use Rattle.lf.proofs.EtaTyping.{eta_long_has_type}
use Rattle.lf.proofs.eta_long_has_type.Goals as goal

pub returns : goal.returns
returns c = eta_long_has_type
