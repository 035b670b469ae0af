use Rattle.tw_unify.proofs.Ordering.{not_next}
use Rattle.tw_unify.proofs.numbering.place_of.Goals as goal

pub loop-place-preserved : goal.loop-place-preserved
loop-place-preserved c = not_next c.args.order.now c.loop-place.place c.args.meta _ c.loop-place-test.true c.if-other-meta.false c.loop-place.invariant
