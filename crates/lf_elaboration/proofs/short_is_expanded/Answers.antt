use Rattle.lf_elaboration.proofs.Examples.{short_expanded as proved}
use Rattle.lf_elaboration.proofs.short_is_expanded.Goals as goal

pub returns : goal.returns
returns c = proved
