use Rattle.std.proofs.Common.{Contains, get_or, arith, subst, sym, ap, refl, take_all}
use Rattle.tw_subord.specs.Pairs.{pairs_of}
use Rattle.tw_subord.specs.declared.pairs.Pair.{Pair}
use Rattle.tw_subord.specs.Rows.{rows_of}
use Rattle.tw_subord.proofs.LinkLists.{no_links, one_link_more}
use Rattle.tw_subord.proofs.links.links.Goals as goal

pub loop-pair-init : goal.loop-pair-init
loop-pair-init c = (c.in_ok-grow.ensures.covers, no_links c.new-links.result.items c.grow.new.links.items c.new-links.ensures.items c.in_ok-grow.ensures.same)

pub loop-pair-preserved : goal.loop-pair-preserved
loop-pair-preserved c =
    let ps = c.args.pairs.now in
    let i = c.loop-pair.pair-index in
    let none : Pair = record { below = 0; above = 0 } in (
      omega (arith, c.loop-pair.invariant.0, c.in_ok-link.ensures.longer),
      one_link_more ps i none (get_or ps i none) (rows_of c.loop-pair.links.items) (rows_of c.link.new.links.items) c.loop-pair-test.true refl c.loop-pair.invariant.1 c.in_ok-link.ensures.linked,
    )

pub returns-clause-covers : goal.returns-clause-covers
returns-clause-covers c = omega (arith, c.put_in_order.ensures.len, c.loop-pair.invariant.0)

pub returns-clause-linked : goal.returns-clause-linked
returns-clause-linked c a b =
    let s = c.put_in_order.ensures.same a b in
    let i = c.loop-pair.invariant.1 a b in
    let e = ap pairs_of (take_all c.loop-pair.pair-index c.args.pairs.now c.loop-pair-test.false) in
    (λ h. subst (λ xs. Contains xs (a, b)) e (i.0 (s.0 h)), λ h. s.1 (i.1 (subst (λ xs. Contains xs (a, b)) (sym e) h)))
