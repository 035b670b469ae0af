use Rattle.std.proofs.Common.{◌≡◌}
use Rattle.lf.specs.Syntax.{skeleton}
use Rattle.tw_terms.specs.OpenView.{open_term_of, open_type_of}
use Rattle.lf_unification.specs.Patterns.{lambdas_of}
use Rattle.tw_prune.proofs.expand.lambdas_over.Given as goal

abbrev pub invariant-loop-rest : goal.invariant-loop-rest
invariant-loop-rest l = lambdas_of (skeleton (open_type_of l.rest)) (open_term_of l.term) ≡ lambdas_of (skeleton (open_type_of l.ty)) (open_term_of l.fn.body)
