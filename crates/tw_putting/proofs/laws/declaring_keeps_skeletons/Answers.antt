use Rattle.tw_putting.proofs.Kept.{declare_keeps, empty_by_skeletons}
use Rattle.tw_putting.proofs.laws.declaring_keeps_skeletons.Goals as goal

pub returns : goal.returns
returns c = λ Σ Γ. (empty_by_skeletons Σ Γ, declare_keeps Σ Γ)
