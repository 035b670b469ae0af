use Rattle.lf_elaboration.proofs.Fitted.{completed_fitted}
use Rattle.lf_elaboration.proofs.completed_has_skeletons.Goals as goal

pub returns : goal.returns
returns c = completed_fitted
