use Rattle.lf_totality.proofs.Copying.{copying_lasts as proved}
use Rattle.lf_totality.proofs.copying_lasts.Goals as goal

pub returns : goal.returns
returns c = proved
