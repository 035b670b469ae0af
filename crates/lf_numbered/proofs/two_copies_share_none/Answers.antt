use Rattle.lf_numbered.proofs.MeetsInstanceExamples.{two_copies_share_none}
use Rattle.lf_numbered.proofs.two_copies_share_none.Goals as goal

pub returns : goal.returns
returns c = two_copies_share_none
