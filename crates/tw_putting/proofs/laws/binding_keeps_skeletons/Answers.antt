use Rattle.tw_putting.proofs.Kept.{bind_keeps, bind_keeps_bound}
use Rattle.tw_putting.proofs.laws.binding_keeps_skeletons.Goals as goal

pub returns : goal.returns
returns c = λ Σ Γ s m N A w h u y t o. (bind_keeps Σ Γ s m N A w h u y t o, bind_keeps_bound s m N u h)
