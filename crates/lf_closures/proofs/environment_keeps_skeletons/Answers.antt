use Rattle.lf_closures.proofs.Values.{environment_by_skeletons}
use Rattle.lf_closures.proofs.environment_keeps_skeletons.Goals as goal

pub returns : goal.returns
returns c = environment_by_skeletons
