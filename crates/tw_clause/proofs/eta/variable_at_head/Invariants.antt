use Rattle.std.proofs.Common.{◌≡◌}
use Rattle.tw_terms.specs.View.{term_of}
use Rattle.lf_checks.specs.Strict.{head_variable}
use Rattle.tw_clause.proofs.eta.variable_at_head.Given as goal

abbrev pub invariant-loop-rest : goal.invariant-loop-rest
invariant-loop-rest l = head_variable l.lambdas (term_of l.rest) ≡ head_variable 0 (term_of l.fn.term)
