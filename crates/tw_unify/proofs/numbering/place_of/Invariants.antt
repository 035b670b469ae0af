use Rattle.std.proofs.Common.{take}
use Rattle.lf.specs.Subordination.{Member}
use Rattle.tw_unify.proofs.numbering.place_of.Given as goal

-- it is none of those so far
abbrev pub invariant-loop-place : goal.invariant-loop-place
invariant-loop-place l = Member l.meta (take l.place l.order) → ⊥
