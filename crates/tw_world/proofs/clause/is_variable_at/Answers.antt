use Rattle.std.proofs.Common.{false}
use Rattle.tw_world.proofs.Solving.{variable_at}
use Rattle.tw_world.proofs.clause.is_variable_at.Goals as goal

pub returns : goal.returns
returns c = λ A e. variable_at A c.args.shape.now c.args.index false e c.requires
