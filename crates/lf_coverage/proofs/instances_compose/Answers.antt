use Rattle.lf_coverage.proofs.InstancesCompose.{instances_compose}
use Rattle.lf_coverage.proofs.instances_compose.Goals as goal

pub returns : goal.returns
returns c = instances_compose
