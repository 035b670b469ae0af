use Rattle.law_explicit_agrees.proofs.OnlyDefinitions.{definition_alone as proved}
use Rattle.law_explicit_agrees.proofs.definition_is_reconstructed_alone.Goals as goal

pub returns : goal.returns
returns c = proved
