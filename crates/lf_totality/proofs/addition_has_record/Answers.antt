use Rattle.lf_totality.proofs.ExamplesRecords.{addition_has_record}
use Rattle.lf_totality.proofs.addition_has_record.Goals as goal

pub returns : goal.returns
returns c = addition_has_record
