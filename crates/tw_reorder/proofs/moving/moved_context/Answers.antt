use Rattle.std.proofs.Common.{get_or, refl}
use Rattle.tw_reorder.proofs.Steps.{next_type}
use Rattle.tw_reorder.proofs.moving.moved_context.Goals as goal

pub loop-place-preserved : goal.loop-place-preserved
loop-place-preserved c =
    next_type c.args.context.now c.metas-variables.result.now c.args.order.now c.loop-place.place record { 0 = 0 } (get_or c.metas-variables.result.now c.loop-place.place record { 0 = 0 }) _ c.loop-place.moved c.add_type.new.moved c.metas-variables.ensures c.loop-place-test.true refl
    c.loop-place.invariant c.in_ok-add_type.ensures
