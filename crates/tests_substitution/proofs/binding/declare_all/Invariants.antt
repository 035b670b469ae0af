use Rattle.tests_substitution.specs.Kept.{KeepsBound}
use Rattle.tests_substitution.proofs.binding.declare_all.Given as goal

abbrev pub invariant-loop-ty : goal.invariant-loop-ty
invariant-loop-ty l = KeepsBound l.fn.store.now l.store.now
