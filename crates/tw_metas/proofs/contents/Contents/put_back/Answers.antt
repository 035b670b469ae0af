use Rattle.std.proofs.Common.{reverse}
use Rattle.tw_metas.specs.View.{bound_by}
use Rattle.tw_metas.proofs.States.{restored_state, declarations_in, values_in}
use Rattle.tw_metas.proofs.contents.Contents.put_back.Goals as goal

pub returns-clause-state : goal.returns-clause-state
returns-clause-state c = restored_state (declarations_in c.args.self.now.metas.items) (values_in c.args.self.now.metas.items) (bound_by (reverse c.args.self.now.trail.items)) c.args.self.now.equations.items c.insert.new.self.items c.args.at c.args.equation c.in-Ok.ensures.items
