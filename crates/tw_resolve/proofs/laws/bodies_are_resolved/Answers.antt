use Rattle.tw_resolve.proofs.WholeBodies.{bodies_are_resolved}
use Rattle.tw_resolve.proofs.laws.bodies_are_resolved.Goals as goal

pub returns : goal.returns
returns c = bodies_are_resolved
