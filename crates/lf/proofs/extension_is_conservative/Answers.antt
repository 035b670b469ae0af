use Rattle.lf.proofs.Conservativity.{conservative}
use Rattle.lf.proofs.extension_is_conservative.Goals as goal

pub returns : goal.returns
returns c = conservative
