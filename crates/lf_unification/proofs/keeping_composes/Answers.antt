use Rattle.lf_unification.proofs.Decompose.{keeps_unifiers_refl, keeps_unifiers_then}
use Rattle.lf_unification.proofs.keeping_composes.Goals as goal

pub returns : goal.returns
returns c = λ Σ G. (keeps_unifiers_refl Σ G, keeps_unifiers_then Σ G)
