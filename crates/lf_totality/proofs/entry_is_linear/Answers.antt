use Rattle.lf_totality.proofs.ExamplesReached.{entry_linear}
use Rattle.lf_totality.proofs.entry_is_linear.Goals as goal

pub returns : goal.returns
returns c = entry_linear
