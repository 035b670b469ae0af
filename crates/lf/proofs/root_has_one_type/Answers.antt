use Rattle.lf.proofs.Regular.{root_type}
use Rattle.lf.proofs.Decidability.{root_unique}
use Rattle.lf.proofs.root_has_one_type.Goals as goal

pub returns : goal.returns
returns c = λ Σ ok G h S A g m. (root_type Σ ok G h S A g m, λ B n. root_unique Σ G h S A B m n)
