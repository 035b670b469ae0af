use Rattle.tw_server.proofs.Readings.{one_reading}
use Rattle.tw_server.proofs.laws.one_reading.Goals as goal

pub returns : goal.returns
returns c = one_reading
