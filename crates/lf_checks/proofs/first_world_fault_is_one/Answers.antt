use Rattle.lf_checks.proofs.OneFault.{first_world_fault}
use Rattle.lf_checks.proofs.first_world_fault_is_one.Goals as goal

pub returns : goal.returns
returns c = first_world_fault
