use Rattle.std.proofs.Common.{◌∙◌, sym, arith, refl}
use Rattle.tw_world.specs.Serving.{below_in}
use Rattle.tw_world.proofs.Served.{none_is_below, some_is_below}
use Rattle.tw_world.proofs.serving.none_below.Goals as goal

pub returns-then-is_below_at : goal.returns-then-is_below_at
returns-then-is_below_at c = (λ w. absurd cc, λ h. absurd (some_is_below c.args.entries.now (below_in c.args.subord.now c.args.family.0) c.loop-next.next (sym c.is_below_at.ensures ∙ c.if-is_below_at.true) h))

pub returns : goal.returns
returns c = (λ w. none_is_below c.args.entries.now (below_in c.args.subord.now c.args.family.0) (λ i b. c.loop-next.invariant.so_far i (let e = c.len-count.ensures in let f = c.loop-next-test.false in omega (arith, b, e, f))), λ h. refl)
