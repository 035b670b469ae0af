use Rattle.lf_unification.proofs.DeclaredConstants.{ascending, declared_listed, listed_declared}
use Rattle.lf_unification.proofs.tried_are_declared.Goals as goal

pub returns : goal.returns
returns c = λ es. (declared_listed es, listed_declared es, ascending es)
