use Rattle.std.proofs.Common.{◌≡◌, drop}
use Rattle.lf_unification.specs.Offering.{lambda_over}
use Rattle.tw_terms.specs.OpenView.{open_term_of}
use Rattle.tw_search.proofs.offer.lambdas.Given as goal

-- closed over the variables so far
abbrev pub invariant-loop : goal.invariant-loop
invariant-loop l = lambda_over l.locals (open_term_of l.fn.body) ≡ lambda_over (drop l.counter l.locals) (open_term_of l.term)
