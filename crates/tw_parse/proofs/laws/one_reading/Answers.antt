use Rattle.tw_parse.proofs.OneReading.{one_reading}
use Rattle.tw_parse.proofs.laws.one_reading.Goals as goal

pub returns : goal.returns
returns c = one_reading
