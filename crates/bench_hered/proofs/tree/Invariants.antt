use Rattle.tw_terms.specs.View.{term_of}
use Rattle.bench_hered.proofs.Typed.{IsTree}
use Rattle.bench_hered.proofs.tree.Given as goal

abbrev pub invariant-loop : goal.invariant-loop
invariant-loop l = IsTree (term_of l.tree)
