use Rattle.tw_server.proofs.Readings.{faultless_is_done}
use Rattle.tw_server.proofs.laws.faultless_is_done.Goals as goal

pub returns : goal.returns
returns c = faultless_is_done
