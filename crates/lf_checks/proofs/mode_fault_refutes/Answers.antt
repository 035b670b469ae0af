use Rattle.lf_checks.proofs.ModeRefuted.{mode_refuted}
use Rattle.lf_checks.proofs.mode_fault_refutes.Goals as goal

pub returns : goal.returns
returns c = mode_refuted
