use Rattle.std.specs.Prelude.{[]}
use Rattle.lf_unification.proofs.Solving.{keeps_most_general}
use Rattle.lf_unification.proofs.solved_is_most_general.Goals as goal

pub returns : goal.returns
returns c = λ Σ Ψ given s. ((λ w. keeps_most_general Σ [] Ψ given s w.keeps), (λ w. keeps_most_general Σ [] Ψ given s w.keeps))
