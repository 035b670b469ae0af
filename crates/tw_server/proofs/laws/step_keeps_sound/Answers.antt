use Rattle.tw_server.proofs.Sound.{step_sound}
use Rattle.tw_server.proofs.laws.step_keeps_sound.Goals as goal

pub returns : goal.returns
returns c = step_sound
