use Rattle.lf.proofs.Worlds.{world_is_context}
use Rattle.lf.proofs.world_is_context.Goals as goal

pub returns : goal.returns
returns c = λ Σ W S G w. world_is_context w
