use Rattle.lf_elaboration.proofs.Determined.{given_determine_all as proved}
use Rattle.lf_elaboration.proofs.given_determine_all.Goals as goal

pub returns : goal.returns
returns c = proved
