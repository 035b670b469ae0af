use Rattle.lf_unification.proofs.Solving.{solved_not_never, solved_unifier}
use Rattle.lf_unification.proofs.solved_has_unifier.Goals as goal

pub returns : goal.returns
returns c = λ Σ ok s s' w. (solved_unifier Σ ok s s' w, solved_not_never Σ ok s s' w)
