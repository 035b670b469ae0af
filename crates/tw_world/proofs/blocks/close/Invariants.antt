use Rattle.std.proofs.Common.{◌≡◌, drop, take}
use Rattle.lf_unification.specs.Offering.{pi_over}
use Rattle.tw_terms.specs.View.{type_of}
use Rattle.tw_world.proofs.blocks.close.Given as goal

abbrev pub invariant-loop-left : goal.invariant-loop-left
invariant-loop-left l = pi_over (take l.left (drop l.at l.context)) (type_of l.closed) ≡ pi_over (take l.fn.count (drop l.fn.from l.context)) (type_of l.fn.body)

abbrev pub decreases-loop-left : goal.decreases-loop-left
decreases-loop-left l = l.left
