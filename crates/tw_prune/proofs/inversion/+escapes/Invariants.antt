use Rattle.std.proofs.Common.{◌≡◌, drop}
use Rattle.tw_terms.specs.OpenView.{open_args_of}
use Rattle.tw_prune.specs.View.{table_of}
use Rattle.tw_prune.specs.Walks.{escapes_in_spine}
use Rattle.tw_prune.proofs.inversion.+escapes.Given as goal

abbrev pub invariant-escapes_in_spine-loop-arg : goal.invariant-escapes_in_spine-loop-arg
invariant-escapes_in_spine-loop-arg l = escapes_in_spine (table_of l.inverse) l.binders (open_args_of (drop l.arg-index l.arg-items)) ≡ escapes_in_spine (table_of l.inverse) l.binders (open_args_of l.arg-items)
