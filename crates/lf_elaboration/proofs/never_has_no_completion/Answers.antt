use Rattle.lf_elaboration.proofs.Principal.{never_completion as proved}
use Rattle.lf_elaboration.proofs.never_has_no_completion.Goals as goal

pub returns : goal.returns
returns c = proved
