use Rattle.std.proofs.Common.{drop}
use Rattle.tw_terms.specs.OpenView.{open_args_of}
use Rattle.tw_unify.specs.Reaching.{marking_of}
use Rattle.tw_unify.proofs.Reaching.{SpineWalk}
use Rattle.tw_unify.proofs.reach.Walk.+walk.Given as goal

abbrev pub invariant-spine-loop-arg : goal.invariant-spine-loop-arg
invariant-spine-loop-arg l = SpineWalk (marking_of l.fn.self) (marking_of l.self) (open_args_of l.arg-items) (open_args_of (drop l.arg-index l.arg-items))
