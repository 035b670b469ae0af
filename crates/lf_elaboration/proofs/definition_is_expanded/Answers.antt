use Rattle.lf_elaboration.proofs.Examples.{definition_expanded as proved}
use Rattle.lf_elaboration.proofs.definition_is_expanded.Goals as goal

pub returns : goal.returns
returns c = proved
