use Rattle.std.proofs.Common.{reverse, arith}
use Rattle.tw_metas.specs.View.{bound_by}
use Rattle.tw_metas.proofs.States.{settled_state, settled_back, declarations_in, values_in}
use Rattle.tw_metas.proofs.contents.Contents.settle.Goals as goal

pub returns-clause-state : goal.returns-clause-state
returns-clause-state c = settled_state (declarations_in c.args.self.now.metas.items) (values_in c.args.self.now.metas.items) (bound_by (reverse c.args.self.now.trail.items)) c.args.self.now.equations.items c.remove.new.self.items c.args.at c.remove.ensures.items

pub returns-clause-back : goal.returns-clause-back
returns-clause-back c = settled_back (declarations_in c.args.self.now.metas.items) (values_in c.args.self.now.metas.items) (bound_by (reverse c.args.self.now.trail.items)) c.args.self.now.equations.items c.remove.new.self.items c.args.at c.remove.result c.remove.ensures.items c.remove.ensures.value (omega (arith, c.requires, c.args.self.now.equations.ok.0))
