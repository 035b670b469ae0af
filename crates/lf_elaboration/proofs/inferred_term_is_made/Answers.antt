use Rattle.lf_elaboration.proofs.Made.{inferred_term_made as proved}
use Rattle.lf_elaboration.proofs.inferred_term_is_made.Goals as goal

pub returns : goal.returns
returns c = proved
