use Rattle.law_explicit_agrees.proofs.Only.{reconstructed_completed as proved}
use Rattle.law_explicit_agrees.proofs.reconstructed_is_completed.Goals as goal

pub returns : goal.returns
returns c = proved
