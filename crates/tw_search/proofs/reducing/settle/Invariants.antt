use Rattle.std.proofs.Common.{length, reverse}
use Rattle.lf.specs.Syntax.{nil}
use Rattle.lf.specs.Typing.{Signature}
use Rattle.tw_putting.specs.Ready.{IsLater}
use Rattle.tw_putting.specs.Whole.{IsConsistent}
use Rattle.tw_unify.specs.Reaching.{IsKnown, Marking}
use Rattle.tw_search.specs.Applied.{taken_at}
use Rattle.tw_search.specs.Beside.{equations_at}
use Rattle.tw_search.specs.Reducing.{CanSettle, NoneMet}
use Rattle.tw_search.proofs.Settling.{Settling}
use Rattle.tw_search.proofs.reducing.settle.Given as goal

-- what is left of the pairs, and those that were found
abbrev pub invariant-loop-pair : goal.invariant-loop-pair
invariant-loop-pair l = record {
  settling : (Σ : Signature) → CanSettle Σ l.metas l.fn.pairs.items l.fn.store.now → Settling Σ l.metas (equations_at (taken_at nil l.metas 0) l.fn.pairs.items) l.fn.store.now (reverse l.rest.items) (equations_at (taken_at nil l.metas 0) l.found.items) l.store.now;
  consistent : IsConsistent l.store.now;
  known : (w : Marking) → NoneMet l.metas w → IsKnown l.fn.store.now w → IsKnown l.store.now w;
  story : IsLater l.fn.store l.store;
}

-- the pairs that are left
abbrev pub decreases-loop-pair : goal.decreases-loop-pair
decreases-loop-pair l = length l.rest.items
