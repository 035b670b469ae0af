use Rattle.lf_coverage.proofs.ExamplesCopyingInstances.{copy_instances as proved}
use Rattle.lf_coverage.proofs.copy_cases_are_instances.Goals as goal

pub returns : goal.returns
returns c = proved
