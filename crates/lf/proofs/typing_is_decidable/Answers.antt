use Rattle.lf.proofs.Decidability.{typing_decidable, types_decidable, kinds_decidable, contexts_decidable}
use Rattle.lf.proofs.typing_is_decidable.Goals as goal

pub returns : goal.returns
returns c = λ Σ G. (typing_decidable Σ G, types_decidable Σ G, kinds_decidable Σ G, contexts_decidable Σ G)
