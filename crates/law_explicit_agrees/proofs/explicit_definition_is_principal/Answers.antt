use Rattle.law_explicit_agrees.proofs.Definitions.{explicit_definition_principal as proved}
use Rattle.law_explicit_agrees.proofs.explicit_definition_is_principal.Goals as goal

pub returns : goal.returns
returns c = proved
