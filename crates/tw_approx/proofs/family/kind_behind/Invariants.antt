use Rattle.std.proofs.Common.{◌≡◌, drop}
use Rattle.tw_terms.specs.View.{kind_of}
use Rattle.tw_approx.specs.Skeletons.{due}
use Rattle.tw_approx.proofs.family.kind_behind.Given as goal

abbrev pub invariant-loop-left : goal.invariant-loop-left
invariant-loop-left l = drop l.left (due (kind_of l.rest)) ≡ drop l.fn.quantifiers (due (kind_of l.fn.kind))

abbrev pub decreases-loop-left : goal.decreases-loop-left
decreases-loop-left l = l.left
