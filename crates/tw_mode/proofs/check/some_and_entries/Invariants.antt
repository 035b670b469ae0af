use Rattle.std.proofs.Common.{◌≡◌, []}
use Rattle.tw_mode.specs.Solved.{with_hidden, with_shown}
use Rattle.tw_mode.proofs.check.some_and_entries.Given as goal

abbrev pub invariant-loop : goal.invariant-loop
invariant-loop l = l.marks.items ≡ with_hidden [] l.counter

abbrev pub invariant-loop-2 : goal.invariant-loop-2
invariant-loop-2 l = l.marks.items ≡ with_shown (with_hidden [] l.some) l.counter
