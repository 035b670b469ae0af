use Rattle.lf_checks.proofs.OneFault.{first_order_fault}
use Rattle.lf_checks.proofs.first_order_fault_is_one.Goals as goal

pub returns : goal.returns
returns c = first_order_fault
