use Rattle.lf_numbered.proofs.ExamplesWriting.{room_is_free, copy_has_values}
use Rattle.lf_numbered.proofs.room_is_free.Goals as goal

pub returns-clause-room : goal.returns-clause-room
returns-clause-room c = room_is_free

pub returns-clause-values : goal.returns-clause-values
returns-clause-values c = copy_has_values
