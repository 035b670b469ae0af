use Rattle.lf_coverage.proofs.RunTyped.{instance_is_typed_case}
use Rattle.lf_coverage.proofs.instance_is_typed_case.Goals as goal

pub returns : goal.returns
returns c = instance_is_typed_case
