use Rattle.std.proofs.Common.{◌≡◌, drop}
use Rattle.tw_terms.specs.View.{args_of}
use Rattle.lf_checks.specs.Strict.{new_arguments}
use Rattle.tw_clause.proofs.eta.+eta.Given as goal

abbrev pub invariant-are_new_variables-loop-arg : goal.invariant-are_new_variables-loop-arg
invariant-are_new_variables-loop-arg l = new_arguments l.left (args_of (drop l.arg-index l.arg-items)) ≡ new_arguments l.count (args_of l.arg-items)
