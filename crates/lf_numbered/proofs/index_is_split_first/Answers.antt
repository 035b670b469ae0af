use Rattle.lf_numbered.proofs.WorkedCallsIndex.{index_is_split_first}
use Rattle.lf_numbered.proofs.index_is_split_first.Goals as goal

pub returns : goal.returns
returns c = index_is_split_first
