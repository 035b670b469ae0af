use Rattle.lf_totality.proofs.Refusals.{loop_refused}
use Rattle.lf_totality.proofs.loop_is_refused.Goals as goal

pub returns : goal.returns
returns c = loop_refused
