use Rattle.lf.proofs.Worlds.{world_for_callee}
use Rattle.lf_checks.proofs.caller_serves_callee.Goals as goal

pub returns : goal.returns
returns c = λ Σ W V S T less fit G w. world_for_callee Σ W V S T less fit w
