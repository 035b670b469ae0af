use Rattle.lf_checks.proofs.OneFault.{first_mode_fault}
use Rattle.lf_checks.proofs.first_mode_fault_is_one.Goals as goal

pub returns : goal.returns
returns c = first_mode_fault
