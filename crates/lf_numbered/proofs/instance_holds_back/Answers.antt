use Rattle.lf_numbered.proofs.SharedInstances.{instance_holds_back}
use Rattle.lf_numbered.proofs.instance_holds_back.Goals as goal

pub returns : goal.returns
returns c = instance_holds_back
