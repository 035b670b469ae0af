use Rattle.std.proofs.Common.{◌≡◌}
use Rattle.lf.specs.Eta.{lambdas}
use Rattle.tw_terms.specs.View.{term_of}
use Rattle.tw_hered.proofs.expand.under_lambdas.Given as goal

abbrev pub invariant-loop : goal.invariant-loop
invariant-loop l = term_of l.term ≡ lambdas l.counter (term_of l.fn.body)
