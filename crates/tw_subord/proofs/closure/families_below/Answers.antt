use Rattle.std.proofs.Common.{◌≡◌, ◌∙◌, ◌≤◌, Contains, get_or, length, arith, subst}
use Rattle.std.proofs.lemmas.List.{get_or_default}
use Rattle.tw_subord.specs.Rows.{row, rows_of}
use Rattle.tw_subord.specs.Walks.{Adds, walked}
use Rattle.tw_subord.proofs.Walking.{walk_start, walk_step, walk_end}
use Rattle.tw_subord.proofs.closure.families_below.Goals as goal

pub loop-next-init : goal.loop-next-init
loop-next-init c = walk_start (rows_of c.args.links.now) c.args.family (walked c.new-walk.result) (walked c.meet.new.self) c.new-walk.ensures.found c.in_ok-meet.ensures

pub loop-next-preserved : goal.loop-next-preserved
loop-next-preserved c =
    let e : c.index-number.result.now ≡ get_or c.loop-next.walk.found.items c.loop-next.next 0 =
    c.index-number.ensures ∙ get_or_default c.loop-next.walk.found.items c.loop-next.next c.index-number.result.now 0 (omega (arith, c.if-next-len.false, c.len.ensures, c.loop-next.walk.found.ok))
    in
    walk_step (rows_of c.args.links.now) c.args.family (walked c.loop-next.walk) (walked c.look_at.new.self) c.loop-next.next c.loop-next.invariant (omega (arith, c.if-next-len.false, c.len.ensures, c.loop-next.walk.found.ok)) (subst (λ k. Adds (Contains (row (rows_of c.args.links.now) k)) (walked c.loop-next.walk) (walked c.look_at.new.self)) e c.in_ok-look_at.ensures)

pub unreachable-requires : goal.unreachable-requires
unreachable-requires c = omega (arith, c.loop-next.invariant.within, c.loop-next.walk.found.ok, c.loop-next.walk.found.small, c.loop-next-test.false)

pub returns-then-next-len-clause-families : goal.returns-then-next-len-clause-families
returns-then-next-len-clause-families c a =
    let w = walked c.loop-next.walk in
    let i = c.loop-next.invariant in
    let all : length w.found ≤ c.loop-next.next = omega (arith, c.if-next-len.true, c.len.ensures, c.loop-next.walk.found.ok) in
    (λ h. i.sound a ((c.in_order.ensures.same a).0 h), λ h. (c.in_order.ensures.same a).1 (walk_end (rows_of c.args.links.now) c.args.family w c.loop-next.next i all a h))
