use Rattle.lf_numbered.proofs.WorkedCallsRaised.{mentioned_output_is_split}
use Rattle.lf_numbered.proofs.mentioned_output_is_split.Goals as goal

pub returns : goal.returns
returns c = mentioned_output_is_split
