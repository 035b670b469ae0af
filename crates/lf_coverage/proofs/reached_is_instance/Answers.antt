use Rattle.lf_coverage.proofs.InstancesCompose.{reached_is_instance}
use Rattle.lf_coverage.proofs.reached_is_instance.Goals as goal

pub returns : goal.returns
returns c = reached_is_instance
