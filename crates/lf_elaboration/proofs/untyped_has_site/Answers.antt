use Rattle.lf_elaboration.proofs.Examples.{untyped_site as proved}
use Rattle.lf_elaboration.proofs.untyped_has_site.Goals as goal

pub returns : goal.returns
returns c = proved
