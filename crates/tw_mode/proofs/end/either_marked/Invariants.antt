use Rattle.std.proofs.Common.{◌≡◌, take}
use Rattle.tw_mode.specs.Ends.{either_of}
use Rattle.tw_mode.proofs.end.either_marked.Given as goal

abbrev pub invariant-loop-place : goal.invariant-loop-place
invariant-loop-place l = l.marks.items ≡ either_of (take l.place l.one) (take l.place l.other)
