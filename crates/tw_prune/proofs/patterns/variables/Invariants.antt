use Rattle.std.proofs.Common.{◌≡◌, ◌++◌, drop}
use Rattle.std.specs.Prelude.{option_map}
use Rattle.tw_terms.specs.OpenView.{open_args_of}
use Rattle.tw_prune.specs.Walks.{variables_in}
use Rattle.tw_prune.proofs.patterns.variables.Given as goal

abbrev pub invariant-loop-arg : goal.invariant-loop-arg
invariant-loop-arg l = option_map (λ xs. l.variables.items ++ xs) (variables_in (open_args_of (drop l.arg-index l.arg-items))) ≡ variables_in (open_args_of l.arg-items)
