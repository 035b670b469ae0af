use Rattle.std.proofs.Common.{◌≡◌, ◌≤◌, length}
use Rattle.lf.specs.Eta.{append}
use Rattle.lf_unification.specs.Offering.{local_arguments}
use Rattle.tw_terms.specs.OpenView.{open_args_of}
use Rattle.tw_open.proofs.Expanding.{newest_arguments}
use Rattle.tw_open.proofs.raising.local_arguments.Given as goal

-- the arguments so far, and the newer variables
abbrev pub invariant-loop-left : goal.invariant-loop-left
invariant-loop-left l = record {
  inside : l.left ≤ length l.locals;
  so_far : local_arguments l.locals ≡ append (open_args_of l.args.items) (newest_arguments l.left l.locals);
}

abbrev pub decreases-loop-left : goal.decreases-loop-left
decreases-loop-left l = l.left
