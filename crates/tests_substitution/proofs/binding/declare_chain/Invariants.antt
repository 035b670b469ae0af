use Rattle.tests_substitution.specs.Kept.{KeepsBound}
use Rattle.tests_substitution.proofs.binding.declare_chain.Given as goal

abbrev pub invariant-loop : goal.invariant-loop
invariant-loop l = KeepsBound l.fn.store.now l.store.now
