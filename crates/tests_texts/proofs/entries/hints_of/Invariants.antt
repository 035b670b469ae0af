use Rattle.std.proofs.Common.{◌≡◌, length}
use Rattle.tests_texts.proofs.entries.hints_of.Given as goal

abbrev pub invariant-loop-place : goal.invariant-loop-place
invariant-loop-place l = length l.hints.items ≡ l.place
