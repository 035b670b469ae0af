use Rattle.lf_numbered.proofs.NumberedSplits.{answered_by_number_is_split}
use Rattle.lf_numbered.proofs.answered_by_number_is_split.Goals as goal

pub returns : goal.returns
returns c = answered_by_number_is_split
