use Rattle.std.proofs.Common.{◌≡◌, drop, map, take}
use Rattle.tw_terms.specs.OpenView.{open_args_of, open_term_of}
use Rattle.tw_terms.specs.View.{term_of}
use Rattle.tw_putting.specs.Closed.{has_metavariable_in_spine}
use Rattle.tw_putting.proofs.closing.+closing.Given as goal

-- the arguments so far, and those that are left decide
abbrev pub invariant-closed_spine-loop-arg : goal.invariant-closed_spine-loop-arg
invariant-closed_spine-loop-arg l = record { same : map term_of l.args.items ≡ map open_term_of (take l.arg-index l.arg-items); rest : has_metavariable_in_spine (open_args_of (drop l.arg-index l.arg-items)) ≡ has_metavariable_in_spine (open_args_of l.arg-items) }
