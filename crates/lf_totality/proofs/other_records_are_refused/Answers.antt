use Rattle.lf_totality.proofs.ExamplesRecords.{others_refused}
use Rattle.lf_totality.proofs.other_records_are_refused.Goals as goal

pub returns : goal.returns
returns c = others_refused
