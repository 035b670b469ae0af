use Rattle.lf_numbered.proofs.NumberedTyped.{numbered_is_typed as proved}
use Rattle.lf_numbered.proofs.numbered_is_typed.Goals as goal

pub returns : goal.returns
returns c = proved
