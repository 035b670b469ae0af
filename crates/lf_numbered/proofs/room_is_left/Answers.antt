use Rattle.lf_numbered.proofs.WritingLeft.{room_is_left as proved}
use Rattle.lf_numbered.proofs.room_is_left.Goals as goal

pub returns : goal.returns
returns c = proved
