use Rattle.lf_totality.proofs.After.{record_made}
use Rattle.lf_totality.proofs.checked_group_is_right.Goals as goal

pub returns : goal.returns
returns c = record_made
