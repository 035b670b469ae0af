use Rattle.lf_checks.proofs.OneFault.{descending_group}
use Rattle.lf_checks.proofs.descending_group_is_listed.Goals as goal

pub returns : goal.returns
returns c = descending_group
