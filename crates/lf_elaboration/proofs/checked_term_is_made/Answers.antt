use Rattle.lf_elaboration.proofs.Made.{checked_term_made as proved}
use Rattle.lf_elaboration.proofs.checked_term_is_made.Goals as goal

pub returns : goal.returns
returns c = proved
