use Rattle.lf_numbered.proofs.WritingRoom.{room_is_made as proved}
use Rattle.lf_numbered.proofs.room_is_made.Goals as goal

pub returns : goal.returns
returns c = proved
