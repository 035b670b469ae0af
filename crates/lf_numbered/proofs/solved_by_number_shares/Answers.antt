use Rattle.lf_numbered.proofs.MeetsAnswersShares.{solved_by_number_shares}
use Rattle.lf_numbered.proofs.solved_by_number_shares.Goals as goal

pub returns : goal.returns
returns c = solved_by_number_shares
