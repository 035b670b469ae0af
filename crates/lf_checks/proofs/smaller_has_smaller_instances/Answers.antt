use Rattle.lf_checks.proofs.Sizes.{smaller_size}
use Rattle.lf_checks.proofs.smaller_has_smaller_instances.Goals as goal

pub returns : goal.returns
returns c = smaller_size
