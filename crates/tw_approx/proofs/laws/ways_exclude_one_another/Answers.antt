use Rattle.tw_approx.proofs.Ways.{ways_exclude}
use Rattle.tw_approx.proofs.laws.ways_exclude_one_another.Goals as goal

pub returns : goal.returns
returns c = ways_exclude
