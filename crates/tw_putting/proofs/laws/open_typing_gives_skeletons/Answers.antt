use Rattle.tw_putting.proofs.FromTyping.{term_by_skeletons}
use Rattle.tw_putting.proofs.laws.open_typing_gives_skeletons.Goals as goal

pub returns : goal.returns
returns c = λ Σ G Ψ D M A. term_by_skeletons Σ G Ψ (λ β. ⊥) D M A
