use Rattle.std.proofs.Common.{take}
use Rattle.tw_terms.specs.OpenView.{open_args_of}
use Rattle.tw_unify.specs.Showing.{Grows, IsNumberedSpine, NeedsSpine}
use Rattle.tw_unify.proofs.numbering.+number.Given as goal

-- the arguments so far
abbrev pub invariant-number_spine-loop-arg : goal.invariant-number_spine-loop-arg
invariant-number_spine-loop-arg l = record {
  numbered : IsNumberedSpine l.order.items (open_args_of (take l.arg-index l.arg-items)) (open_args_of l.args.items);
  grown : Grows (NeedsSpine (open_args_of (take l.arg-index l.arg-items))) l.fn.order.items l.order.items;
}
