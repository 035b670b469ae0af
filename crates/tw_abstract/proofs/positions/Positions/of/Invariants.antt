use Rattle.std.proofs.Common.{◌≡◌, map, take}
use Rattle.tw_abstract.proofs.positions.Positions.of.Given as goal

-- those so far
abbrev pub invariant-loop-meta : goal.invariant-loop-meta
invariant-loop-meta l = l.positions ≡ map (λ m. m.0) (take l.meta-index l.metas)
