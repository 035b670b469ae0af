use Rattle.lf_totality.proofs.After.{record_on}
use Rattle.lf_totality.proofs.record_stays_right.Goals as goal

pub returns : goal.returns
returns c = record_on
