use Rattle.lf_numbered.proofs.TypedNumbered.{numbered_case_is_typed as proved}
use Rattle.lf_numbered.proofs.numbered_case_is_typed.Goals as goal

pub returns : goal.returns
returns c = proved
