use Rattle.std.proofs.Common.{◌≡◌, ◌-◌, length}
use Rattle.tw_reorder.specs.Waiting.{through_types}
use Rattle.tw_reorder.proofs.waiting.note_types.Given as goal

abbrev pub invariant-loop-place : goal.invariant-loop-place
invariant-loop-place l = through_types l.context (length l.context) 0 l.fn.found ≡ through_types l.context (length l.context - l.place) l.place l.found
