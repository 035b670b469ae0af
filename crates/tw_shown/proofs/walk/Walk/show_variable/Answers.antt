use Rattle.std.proofs.Common.{arith, refl}
use Rattle.tw_shown.proofs.Walking.{context_variable, own_variable}
use Rattle.tw_shown.proofs.walk.Walk.show_variable.Goals as goal

pub returns-then-variable-self : goal.returns-then-variable-self
returns-then-variable-self c = own_variable c.args.self.now c.args.variable (omega arith)

pub returns : goal.returns
returns c = context_variable c.args.self.now _ c.args.variable (omega arith) c.in_ok-push.ensures.items refl refl
