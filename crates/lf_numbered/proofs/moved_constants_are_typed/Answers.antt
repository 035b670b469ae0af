use Rattle.lf_numbered.proofs.NumberedMeetsTyped.{moved_constants_are_typed}
use Rattle.lf_numbered.proofs.moved_constants_are_typed.Goals as goal

pub returns : goal.returns
returns c = moved_constants_are_typed
