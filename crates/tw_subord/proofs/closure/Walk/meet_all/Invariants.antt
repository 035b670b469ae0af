use Rattle.std.proofs.Common.{Contains, take}
use Rattle.tw_subord.specs.Walks.{Adds, walked}
use Rattle.tw_subord.proofs.closure.Walk.meet_all.Given as goal

abbrev pub invariant-loop-number : goal.invariant-loop-number
invariant-loop-number l = Adds (Contains (take l.number-index l.numbers)) (walked l.fn.self) (walked l.self)
