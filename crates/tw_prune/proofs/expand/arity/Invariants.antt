use Rattle.std.proofs.Common.{◌≡◌, ◌+◌}
use Rattle.lf.specs.Eta.{arity}
use Rattle.lf.specs.Syntax.{skeleton}
use Rattle.tw_terms.specs.OpenView.{open_type_of}
use Rattle.tw_prune.proofs.expand.arity.Given as goal

abbrev pub invariant-loop-rest : goal.invariant-loop-rest
invariant-loop-rest l = l.count + arity (skeleton (open_type_of l.rest)) ≡ arity (skeleton (open_type_of l.ty))
