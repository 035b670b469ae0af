use Rattle.std.proofs.Common.{take, map}
use Rattle.tw_prune.specs.View.{loss_of}
use Rattle.tw_unify.proofs.Moving.{AllKept}
use Rattle.tw_unify.proofs.moves.losing.Given as goal

-- none of those so far can be lost
abbrev pub invariant-loop-loss : goal.invariant-loop-loss
invariant-loop-loss l = AllKept l.store.now (map loss_of (take l.loss-index l.loss-items))
