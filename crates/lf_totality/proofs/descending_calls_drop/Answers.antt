use Rattle.lf_totality.proofs.Drops.{calls_drop}
use Rattle.lf_totality.proofs.descending_calls_drop.Goals as goal

pub returns : goal.returns
returns c = calls_drop
