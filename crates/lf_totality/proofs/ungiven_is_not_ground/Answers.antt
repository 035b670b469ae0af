use Rattle.lf_totality.proofs.ExamplesReached.{ungiven_not_ground as proved}
use Rattle.lf_totality.proofs.ungiven_is_not_ground.Goals as goal

pub returns : goal.returns
returns c = proved
