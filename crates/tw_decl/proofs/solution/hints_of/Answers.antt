use Rattle.std.proofs.Common.{get_or, refl}
use Rattle.tw_signature.specs.Goal.{goal_of}
use Rattle.tw_decl.proofs.Solved.{next_hint}
use Rattle.tw_decl.proofs.solution.hints_of.Goals as goal

pub loop-free-preserved : goal.loop-free-preserved
loop-free-preserved c =
    let x = get_or c.args.order.now c.loop-free.free-index record { 0 = 0 } in
    next_hint (goal_of c.args.goal.now) c.args.answer.now c.args.order.now c.loop-free.free-index record { 0 = 0 } x c.loop-free.hints.items c.push.new.self.items c.in_ok-hint.hint c.loop-free-test.true refl c.loop-free.invariant c.in_ok-hint.ensures
    c.in_ok-push.ensures.items
