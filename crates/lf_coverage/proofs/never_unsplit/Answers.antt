use Rattle.lf_coverage.proofs.NeverStuck.{never_unsplit}
use Rattle.lf_coverage.proofs.never_unsplit.Goals as goal

pub returns : goal.returns
returns c = never_unsplit
