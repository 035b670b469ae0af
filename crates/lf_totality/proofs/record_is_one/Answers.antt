use Rattle.lf_totality.proofs.Records.{record_one}
use Rattle.lf_totality.proofs.record_is_one.Goals as goal

pub returns : goal.returns
returns c = record_one
