use Rattle.std.proofs.Common.{map, take}
use Rattle.tw_abstract.specs.OrderView.{waiting_of}
use Rattle.tw_abstract.specs.Quantifiers.{AreCandidates}
use Rattle.tw_abstract.proofs.typing.candidates.Given as goal

-- those so far
abbrev pub invariant-loop-meta : goal.invariant-loop-meta
invariant-loop-meta l = AreCandidates l.store.now (map (λ m. m.0) (take l.meta-index l.metas)) (map waiting_of l.candidates.items)
