use Rattle.lf_coverage.proofs.NeverStuck.{unsplit_shares_none}
use Rattle.lf_coverage.proofs.unsplit_shares_none.Goals as goal

pub returns : goal.returns
returns c = unsplit_shares_none
