use Rattle.std.proofs.Common.{◌≡◌, map, take}
use Rattle.tw_abstract.specs.OrderView.{waiting_of}
use Rattle.tw_reorder.specs.Waiting.{waiting}
use Rattle.tw_reorder.proofs.waiting.candidates.Given as goal

abbrev pub invariant-loop-meta : goal.invariant-loop-meta
invariant-loop-meta l = map waiting_of l.candidates.items ≡ map (waiting l.context) (map (λ n. n.0) (take l.meta-index l.found))
