use Rattle.std.proofs.Common.{◌≡◌}
use Rattle.lf.specs.Syntax.{skeleton}
use Rattle.tw_terms.specs.View.{type_of}
use Rattle.tw_approx.specs.Skeletons.{behind}
use Rattle.tw_approx.proofs.family.type_behind.Given as goal

abbrev pub invariant-loop-left : goal.invariant-loop-left
invariant-loop-left l = behind l.left (skeleton (type_of l.rest)) ≡ behind l.fn.quantifiers (skeleton (type_of l.fn.ty))

abbrev pub decreases-loop-left : goal.decreases-loop-left
decreases-loop-left l = l.left
