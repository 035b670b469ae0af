use Rattle.lf_coverage.proofs.Meeting.{never_shares_all}
use Rattle.lf_coverage.proofs.never_shares_all.Goals as goal

pub returns : goal.returns
returns c = never_shares_all
