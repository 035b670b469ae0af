use Rattle.lf.specs.Entries.{signature_of}
use Rattle.lf.proofs.Entries.{canonical_is_signature}
use Rattle.lf_unification.specs.Search.{declared_constants}
use Rattle.lf_unification.proofs.Query.{leaf_answers}
use Rattle.lf_unification.proofs.leaf_answers.Goals as goal

pub returns : goal.returns
returns c = λ es k q w ls n agenda r l i F β u. leaf_answers (signature_of es) (canonical_is_signature es k) (declared_constants es) q w r l i F β u
