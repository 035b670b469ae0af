use Rattle.tw_server.proofs.Readings.{short_is_not_long}
use Rattle.tw_server.proofs.laws.short_is_not_long.Goals as goal

pub returns : goal.returns
returns c = short_is_not_long
