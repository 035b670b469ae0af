use Rattle.std.proofs.Common.{◌≡◌, ◌≤◌, ◌-◌, length, drop}
use Rattle.tw_metas.specs.State.{states}
use Rattle.tw_metas.proofs.store.Store.undo_to.Given as goal

-- what is held now was held before the changes that are taken back so far
abbrev pub invariant-loop-mark : goal.invariant-loop-mark
invariant-loop-mark l =
    record {
      bounded : l.fn.mark ≤ length l.self.before;
      no_more : length l.self.before ≤ length l.fn.self.before;
      gone : states l.self ≡ drop (length l.fn.self.before - length l.self.before) (states l.fn.self);
    }

abbrev pub decreases-loop-mark : goal.decreases-loop-mark
decreases-loop-mark l = length l.self.before
