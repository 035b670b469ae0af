use Rattle.std.proofs.Common.{length, map, reverse}
use Rattle.lf.specs.Syntax.{nil}
use Rattle.lf.specs.Typing.{IsSignature, Signature}
use Rattle.tw_metas.specs.View.{equation_of}
use Rattle.tw_putting.specs.Ready.{IsLater, IsReady}
use Rattle.tw_putting.specs.Whole.{IsConsistent}
use Rattle.tw_unify.specs.Reaching.{IsKnown, marking_of}
use Rattle.tw_search.specs.Applied.{taken_at}
use Rattle.tw_search.specs.Beside.{equations_at}
use Rattle.tw_search.proofs.GivingPairs.{Giving}
use Rattle.tw_search.proofs.giving.give.Given as goal

-- what is left of the pairs, and the equations that were found
abbrev pub invariant-loop-pair : goal.invariant-loop-pair
invariant-loop-pair l = record {
  giving : (Σ : Signature) → IsSignature Σ → IsReady Σ (equations_at (taken_at nil l.metas 0) l.fn.pairs.items) l.fn.store.now → Giving Σ l.metas (equations_at (taken_at nil l.metas 0) l.fn.pairs.items) l.fn.store.now (reverse l.rest.items) (map equation_of l.found.items) l.store.now;
  consistent : IsConsistent l.store.now;
  known : IsKnown l.fn.store.now (marking_of l.fn.met) → IsKnown l.store.now (marking_of l.met);
  story : IsLater l.fn.store l.store;
}

-- the pairs that are left
abbrev pub decreases-loop-pair : goal.decreases-loop-pair
decreases-loop-pair l = length l.rest.items
