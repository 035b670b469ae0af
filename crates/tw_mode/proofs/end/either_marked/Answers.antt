use Rattle.std.proofs.Common.{◌++◌, ◌∙◌, ◌∷◌, [], ap, arith}
use Rattle.tw_mode.proofs.Ending.{either_pushed}
use Rattle.tw_mode.proofs.end.either_marked.Goals as goal

pub loop-place-preserved : goal.loop-place-preserved
loop-place-preserved c = either_pushed c.args.one.now c.args.other.now c.loop-place.marks.items c.push.new.self.items c.loop-place.place (omega arith) (omega arith) c.loop-place.invariant (c.in_ok-push.ensures.items ∙ ap (λ b. c.loop-place.marks.items ++ b ∷ []) c.is_either.ensures)
