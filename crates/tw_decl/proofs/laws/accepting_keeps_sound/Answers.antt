use Rattle.tw_decl.proofs.Sound.{accepted_sound}
use Rattle.tw_decl.proofs.laws.accepting_keeps_sound.Goals as goal

pub returns : goal.returns
returns c = accepted_sound
