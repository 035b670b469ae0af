use Rattle.std.proofs.Common.{◌≡◌, ◌<◌, [], ◌++◌, drop, length, map, take, arith, refl, sym, ap, ◌∙◌, subst}
use Rattle.tw_abstract.specs.Order.{EachIsNext}
use Rattle.tw_abstract.specs.OrderView.{AreMet, waiting_of}
use Rattle.tw_abstract.proofs.Choosing.{chosen_grow, each_and_next, fewer_wait, front, waiting_count}
use Rattle.tw_abstract.proofs.order.quantifier_order.Goals as goal

pub loop-meta-smaller : goal.loop-meta-smaller
loop-meta-smaller c = subst (λ x. waiting_count x c.args.candidates.now < waiting_count c.loop-meta.chosen c.args.candidates.now) (sym c.in_ok-push.ensures.ok) (fewer_wait c.args.candidates.now c.loop-meta.chosen c.in-Some.meta.0 c.in-Some.ensures.first)

pub loop-meta-preserved : goal.loop-meta-preserved
loop-meta-preserved c =
    let h : c.loop-meta.met.len ≡ length c.next.new.met = omega arith in
    let f = front c.next.new.met (drop (length c.next.new.met) c.loop-meta.met.items) c.loop-meta.met.len h in
    record {
      each = subst (EachIsNext (map waiting_of c.args.candidates.now) []) (sym c.in_ok-push.ensures.ok) (each_and_next (map waiting_of c.args.candidates.now) [] c.loop-meta.chosen c.in-Some.meta.0 c.loop-meta.invariant.each c.in-Some.ensures.first);
      known = subst (λ x. AreMet x c.args.candidates.now (take c.loop-meta.met.len (c.next.new.met ++ drop (length c.next.new.met) c.loop-meta.met.items))) (sym c.in_ok-push.ensures.ok) (chosen_grow c.loop-meta.chosen c.in-Some.meta.0 c.args.candidates.now (take c.loop-meta.met.len (c.next.new.met ++ drop (length c.next.new.met) c.loop-meta.met.items)) (subst (AreMet c.loop-meta.chosen c.args.candidates.now) (sym f) c.in-Some.ensures.known));
      len = ap length f ∙ c.next.auto.met ∙ ap length c.deref_mut.ensures.value ∙ c.loop-meta.invariant.len;
    }

pub returns-then-all_stand : goal.returns-then-all_stand
returns-then-all_stand c = (c.loop-meta.invariant.each, c.if-all_stand.ensures.yes refl)
