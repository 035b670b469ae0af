use Rattle.std.proofs.Common.{◌≡◌, None, drop}
use Rattle.tw_prune.specs.View.{table_of}
use Rattle.tw_prune.specs.Walks.{last_lacking}
use Rattle.tw_prune.proofs.drops.last_lacking.Given as goal

abbrev pub invariant-loop-place : goal.invariant-loop-place
invariant-loop-place l = last_lacking (table_of l.inverse) l.binders l.place l.last (drop l.place l.variables) ≡ last_lacking (table_of l.inverse) l.binders 0 None l.variables
