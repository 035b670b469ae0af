use Rattle.std.proofs.Common.{◌↔◌, drop}
use Rattle.tw_terms.specs.OpenView.{open_args_of}
use Rattle.tw_putting.specs.Stores.{SpineAllIn}
use Rattle.tw_putting.proofs.plain.+plain.Given as goal

-- the arguments that are left decide
abbrev pub invariant-is_spine_all_in-loop-arg : goal.invariant-is_spine_all_in-loop-arg
invariant-is_spine_all_in-loop-arg l = SpineAllIn l.store.now (open_args_of (drop l.arg-index l.arg-items)) ↔ SpineAllIn l.store.now (open_args_of l.arg-items)
