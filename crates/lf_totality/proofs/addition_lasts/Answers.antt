use Rattle.lf_totality.proofs.Addition.{addition_lasts as proved}
use Rattle.lf_totality.proofs.addition_lasts.Goals as goal

pub returns : goal.returns
returns c = proved
