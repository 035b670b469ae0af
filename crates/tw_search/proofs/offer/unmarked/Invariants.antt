use Rattle.std.proofs.Common.{◌≡◌, ◌++◌, drop}
use Rattle.tw_search.specs.Offers.{unmarked}
use Rattle.tw_search.proofs.offer.unmarked.Given as goal

-- those so far, and those of what is left
abbrev pub invariant-loop-place : goal.invariant-loop-place
invariant-loop-place l = unmarked l.marks l.metas ≡ l.found.items ++ unmarked (drop l.place l.marks) (drop l.place l.metas)
