use Rattle.tw_terms.specs.OpenView.{open_term_of}
use Rattle.tw_putting.specs.Fits.{PutFits}
use Rattle.tw_putting.proofs.HeadValues.{ComesFrom}
use Rattle.tw_putting.proofs.unfolding.unfold.Given as goal

-- what comes of the term here comes of the first one
abbrev pub invariant-loop : goal.invariant-loop
invariant-loop l = record {
  fits : PutFits l.store.now l.binders (open_term_of l.here);
  comes : ComesFrom l.store.now l.binders (open_term_of l.fn.term) (open_term_of l.here);
}
