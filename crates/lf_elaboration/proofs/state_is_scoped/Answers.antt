use Rattle.lf_elaboration.proofs.Made.{state_scoped as proved}
use Rattle.lf_elaboration.proofs.state_is_scoped.Goals as goal

pub returns : goal.returns
returns c = proved
