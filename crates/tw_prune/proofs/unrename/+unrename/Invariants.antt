use Rattle.std.proofs.Common.{◌≡◌, drop}
use Rattle.std.specs.Prelude.{option_map}
use Rattle.lf.specs.Eta.{append}
use Rattle.tw_terms.specs.OpenView.{open_args_of}
use Rattle.tw_prune.specs.View.{table_of}
use Rattle.tw_prune.specs.Walks.{unrenamed_spine}
use Rattle.tw_prune.proofs.unrename.+unrename.Given as goal

abbrev pub invariant-unrename_spine-loop-arg : goal.invariant-unrename_spine-loop-arg
invariant-unrename_spine-loop-arg l = option_map (append (open_args_of l.args.items)) (unrenamed_spine (table_of l.inverse) l.binders (open_args_of (drop l.arg-index l.arg-items))) ≡ unrenamed_spine (table_of l.inverse) l.binders (open_args_of l.arg-items)
