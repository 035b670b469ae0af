use Rattle.lf_checks.proofs.PartTypes.{counted_number}
use Rattle.lf_checks.proofs.subgoals_are_counted.Goals as goal

pub returns : goal.returns
returns c = counted_number
