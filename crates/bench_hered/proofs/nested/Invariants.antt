use Rattle.tw_terms.specs.View.{term_of}
use Rattle.bench_hered.proofs.Typed.{IsNested}
use Rattle.bench_hered.proofs.nested.Given as goal

abbrev pub invariant-loop : goal.invariant-loop
invariant-loop l = IsNested (term_of l.nested)
