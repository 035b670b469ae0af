use Rattle.tw_decl.proofs.Sound.{accepted_from_sound}
use Rattle.tw_decl.proofs.laws.accepting_from_keeps_sound.Goals as goal

pub returns : goal.returns
returns c = accepted_from_sound
