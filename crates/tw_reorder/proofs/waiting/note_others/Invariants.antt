use Rattle.std.proofs.Common.{◌≡◌}
use Rattle.tw_abstract.specs.Occurrences.{noted}
use Rattle.tw_reorder.specs.Waiting.{outermost_first}
use Rattle.tw_reorder.proofs.waiting.note_others.Given as goal

abbrev pub invariant-loop-place : goal.invariant-loop-place
invariant-loop-place l = noted l.fn.found (outermost_first l.count) ≡ noted l.found (outermost_first l.place)
