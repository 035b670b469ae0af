use Rattle.lf_numbered.proofs.NumberedArguments.{numbered_holds_same_tuples as proved}
use Rattle.lf_numbered.proofs.numbered_holds_same_tuples.Goals as goal

pub returns : goal.returns
returns c = proved
