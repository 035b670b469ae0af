use Rattle.lf_totality.proofs.Refusals.{unsound_refused}
use Rattle.lf_totality.proofs.unsound_marks_are_refused.Goals as goal

pub returns : goal.returns
returns c = unsound_refused
