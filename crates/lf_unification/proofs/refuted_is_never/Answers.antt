use Rattle.lf_unification.proofs.Runs.{run_refuted}
use Rattle.lf_unification.proofs.refuted_is_never.Goals as goal

pub returns : goal.returns
returns c = λ Σ ok s s' w r n. run_refuted Σ ok w r n
