use Rattle.std.proofs.Common.{◌<◌, length, subst}
use Rattle.tw_reorder.proofs.Steps.{next_needs}
use Rattle.tw_reorder.proofs.waiting.note_types.Goals as goal

pub loop-place-preserved : goal.loop-place-preserved
loop-place-preserved c =
    let l : c.loop-place.place < length c.args.context.now = subst (λ n. c.loop-place.place < n) c.len-place-end.ensures c.loop-place-test.true in
    next_needs c.args.context.now (length c.args.context.now) c.loop-place.place _ c.loop-place.found c.note_needs.new.found l c.loop-place.invariant c.in_ok-note_needs.ensures
