use Rattle.lf_totality.proofs.ExamplesReached.{applied_unsplit}
use Rattle.lf_totality.proofs.applied_is_unsplit.Goals as goal

pub returns : goal.returns
returns c = applied_unsplit
