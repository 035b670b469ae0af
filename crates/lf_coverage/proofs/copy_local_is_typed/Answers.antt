use Rattle.lf_coverage.proofs.ExamplesLocal.{copy_local_is_typed}
use Rattle.lf_coverage.proofs.copy_local_is_typed.Goals as goal

pub returns : goal.returns
returns c = copy_local_is_typed
