use Rattle.lf_totality.proofs.ExamplesReached.{mentioned_is_raised}
use Rattle.lf_totality.proofs.mentioned_is_raised.Goals as goal

pub returns : goal.returns
returns c = mentioned_is_raised
