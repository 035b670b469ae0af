use Rattle.std.proofs.Common.{◌≡◌, ◌++◌, drop, map}
use Rattle.tw_terms.specs.OpenView.{open_args_of}
use Rattle.tw_prune.specs.View.{loss_of, table_of}
use Rattle.tw_prune.specs.Walks.{losses_in_spine}
use Rattle.tw_prune.proofs.drops.+collect.Given as goal

abbrev pub invariant-collect_from_spine-loop-arg : goal.invariant-collect_from_spine-loop-arg
invariant-collect_from_spine-loop-arg l = map loss_of l.losses.items ++ losses_in_spine (table_of l.inverse) l.binders (open_args_of (drop l.arg-index l.arg-items)) ≡ map loss_of l.fn.losses.items ++ losses_in_spine (table_of l.inverse) l.binders (open_args_of l.arg-items)
