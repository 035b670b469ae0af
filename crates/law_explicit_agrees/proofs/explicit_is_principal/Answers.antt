use Rattle.law_explicit_agrees.proofs.Whole.{explicit_principal as proved}
use Rattle.law_explicit_agrees.proofs.explicit_is_principal.Goals as goal

pub returns : goal.returns
returns c = proved
