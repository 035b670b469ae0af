use Rattle.lf_cases.proofs.Split.{split_covers}
use Rattle.lf_cases.proofs.splits_cover.Goals as goal

pub returns : goal.returns
returns c Σ W S ps C n e = split_covers Σ W S ps C n e
