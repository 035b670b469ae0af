use Rattle.std.proofs.Common.{map}
use Rattle.tw_terms.specs.View.{skeleton_of}
use Rattle.tests_substitution.specs.Kept.{IsBound}
use Rattle.tests_substitution.proofs.binding.bind_chain.Given as goal

abbrev pub invariant-loop-next : goal.invariant-loop-next
invariant-loop-next l = IsBound l.signature (map skeleton_of l.outer) l.store.now
