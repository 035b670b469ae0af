use Rattle.std.proofs.Common.{◌≡◌, ◌++◌, drop}
use Rattle.tw_prune.specs.Walks.{differences_from}
use Rattle.tw_prune.proofs.compare.different_places.Given as goal

abbrev pub invariant-loop-place : goal.invariant-loop-place
invariant-loop-place l = l.places.items ++ differences_from l.place (drop l.place l.left) (drop l.place l.right) ≡ differences_from 0 l.left l.right
