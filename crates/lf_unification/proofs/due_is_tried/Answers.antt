use Rattle.lf.specs.Entries.{signature_of}
use Rattle.lf_unification.specs.Search.{declared_constants}
use Rattle.lf_unification.proofs.Due.{due_is_tried, tried_is_due}
use Rattle.lf_unification.proofs.due_is_tried.Goals as goal

pub returns : goal.returns
returns c = λ es agenda after ls k p. (due_is_tried (signature_of es) (declared_constants es) p, tried_is_due (signature_of es) (declared_constants es) p)
