use Rattle.lf.proofs.Strength.{strengthening_keeps_typing}
use Rattle.lf.proofs.strengthening_keeps_typing.Goals as goal

pub returns : goal.returns
returns c = strengthening_keeps_typing
