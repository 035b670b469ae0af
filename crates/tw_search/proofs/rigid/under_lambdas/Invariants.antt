use Rattle.tw_terms.specs.OpenView.{open_term_of}
use Rattle.tw_search.specs.Clashing.{IsUnder}
use Rattle.tw_search.proofs.rigid.under_lambdas.Given as goal

-- the rest stands under the lambdas that were passed
abbrev pub invariant-loop-rest : goal.invariant-loop-rest
invariant-loop-rest l = IsUnder (open_term_of l.term) l.lambdas (open_term_of l.rest)
