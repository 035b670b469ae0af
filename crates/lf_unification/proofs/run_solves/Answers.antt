use Rattle.lf_unification.proofs.Runs.{run_left, run_solved}
use Rattle.lf_unification.proofs.run_solves.Goals as goal

pub returns : goal.returns
returns c = λ Σ ok s s' w r. (run_solved Σ ok w r, run_left Σ ok w r)
