use Rattle.tw_terms.specs.View.{term_of}
use Rattle.tw_search.specs.Clashing.{IsUnder}
use Rattle.tw_search.proofs.rigid.clause_head.Given as goal

-- the rest stands under the lambdas that were passed
abbrev pub invariant-loop-rest : goal.invariant-loop-rest
invariant-loop-rest l = IsUnder (term_of l.arg) l.lambdas (term_of l.rest)
