use Rattle.lf.specs.Entries.{signature_of}
use Rattle.lf.proofs.Entries.{canonical_is_signature}
use Rattle.lf_unification.specs.Search.{declared_constants}
use Rattle.lf_unification.proofs.DeclaredConstants.{declared_listed}
use Rattle.lf_unification.proofs.Query.{nothing_missed}
use Rattle.lf_unification.proofs.nothing_is_missed.Goals as goal

pub returns : goal.returns
returns c = λ es k q w ls n r shown proof a. nothing_missed (signature_of es) (canonical_is_signature es k) (declared_constants es) q w (declared_listed es) r shown proof a
