use Rattle.lf_checks.proofs.SmallerDecided.{smaller_decided}
use Rattle.lf_checks.proofs.smaller_is_decided.Goals as goal

pub returns : goal.returns
returns c = smaller_decided
