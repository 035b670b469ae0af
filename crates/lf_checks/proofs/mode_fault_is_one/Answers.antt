use Rattle.lf_checks.proofs.ModeRefuted.{one_place}
use Rattle.lf_checks.proofs.mode_fault_is_one.Goals as goal

pub returns : goal.returns
returns c = one_place
