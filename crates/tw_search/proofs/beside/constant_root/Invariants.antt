use Rattle.tw_putting.specs.Stores.{bindings_of}
use Rattle.tw_terms.specs.OpenView.{open_term_of}
use Rattle.tw_search.specs.Beside.{LeadsTo}
use Rattle.tw_search.proofs.beside.constant_root.Given as goal

-- the term leads to the one that is reached
abbrev pub invariant-loop : goal.invariant-loop
invariant-loop l = LeadsTo (bindings_of l.store.now) (open_term_of l.term) (open_term_of l.here)
