use Rattle.lf_cases.proofs.Heads.{head_known}
use Rattle.lf_cases.proofs.heads_are_known.Goals as goal

pub returns : goal.returns
returns c = head_known
