use Rattle.lf_coverage.proofs.TypedCases.{solved_shares_instance}
use Rattle.lf_coverage.proofs.solved_shares_instance.Goals as goal

pub returns : goal.returns
returns c = solved_shares_instance
