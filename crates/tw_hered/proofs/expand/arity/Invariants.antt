use Rattle.std.proofs.Common.{◌≡◌, ◌+◌}
use Rattle.lf.specs.Eta.{arity}
use Rattle.tw_terms.specs.View.{skeleton_of}
use Rattle.tw_hered.proofs.expand.arity.Given as goal

abbrev pub invariant-loop-rest : goal.invariant-loop-rest
invariant-loop-rest l = l.count + arity (skeleton_of l.rest) ≡ arity (skeleton_of l.skeleton)
