use Rattle.std.proofs.Common.{◌≡◌, [], drop}
use Rattle.tw_reorder.specs.Moving.{moved_types}
use Rattle.tw_reorder.proofs.moving.moved_context.Given as goal

abbrev pub invariant-loop-place : goal.invariant-loop-place
invariant-loop-place l = moved_types l.context l.order l.order [] ≡ moved_types l.context l.order (drop l.place l.order) l.moved
