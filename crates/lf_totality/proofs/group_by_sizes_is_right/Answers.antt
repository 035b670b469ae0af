use Rattle.lf_totality.proofs.After.{record_by_sizes}
use Rattle.lf_totality.proofs.group_by_sizes_is_right.Goals as goal

pub returns : goal.returns
returns c = record_by_sizes
