use Rattle.lf_totality.proofs.ExamplesReached.{equality_unsplit}
use Rattle.lf_totality.proofs.equality_is_unsplit.Goals as goal

pub returns : goal.returns
returns c = equality_unsplit
