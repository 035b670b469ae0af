use Rattle.std.proofs.Common.{◌≡◌, ◌∙◌, length, sym, arith, refl}
use Rattle.tw_world.proofs.Served.{same_lists}
use Rattle.tw_world.proofs.serving.same_context.Goals as goal

pub returns : goal.returns
returns c =
    let l : length c.args.context.now ≡ length c.args.other.now = sym c.len.ensures ∙ (omega arith) ∙ c.len-2.ensures in
    (λ w. same_lists c.args.context.now c.args.other.now l (λ i b. c.loop-next.invariant.so_far i (let e = c.len-count.ensures in let f = c.loop-next-test.false in omega (arith, b, e, f))), λ h. refl)
