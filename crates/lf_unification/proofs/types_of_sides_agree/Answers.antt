use Rattle.std.proofs.Common.{refl}
use Rattle.lf_unification.proofs.StepLemmas.{type_equation}
use Rattle.lf_unification.proofs.types_of_sides_agree.Goals as goal

pub returns : goal.returns
returns c = λ Σ F M a b T U m n. type_equation Σ F M M a b T U refl m n
