use Rattle.lf_totality.proofs.Records.{record_freezes}
use Rattle.lf_totality.proofs.record_freezes.Goals as goal

pub returns : goal.returns
returns c = record_freezes
