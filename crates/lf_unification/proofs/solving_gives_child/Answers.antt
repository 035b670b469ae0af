use Rattle.lf_unification.proofs.Solving.{left_child, solved_child}
use Rattle.lf_unification.proofs.solving_gives_child.Goals as goal

pub returns : goal.returns
returns c = λ Σ ok s s'. (solved_child Σ ok s s', left_child Σ s s')
