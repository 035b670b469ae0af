use Rattle.lf_totality.proofs.Refusals.{marks_fit}
use Rattle.lf_totality.proofs.marks_must_fit.Goals as goal

pub returns : goal.returns
returns c = marks_fit
