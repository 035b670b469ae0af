use Rattle.lf_totality.proofs.ExamplesGroups.{caller_of_record_lasts}
use Rattle.lf_totality.proofs.caller_of_record_lasts.Goals as goal

pub returns : goal.returns
returns c = caller_of_record_lasts
