use Rattle.std.proofs.Common.{take}
use Rattle.tw_unify.proofs.Moving.{PlacesKept}
use Rattle.tw_unify.proofs.moves.differing.Given as goal

-- none of those so far can be lost
abbrev pub invariant-loop-place : goal.invariant-loop-place
invariant-loop-place l = PlacesKept l.store.now l.meta.0 (take l.place-index l.place-items)
