use Rattle.std.proofs.Common.{◌≡◌, take}
use Rattle.tw_total.specs.View.{numbers_of}
use Rattle.tw_total.proofs.frozen.ids.Given as goal

abbrev pub invariant-loop-number : goal.invariant-loop-number
invariant-loop-number l = numbers_of l.ids.items ≡ take l.number-index l.numbers
