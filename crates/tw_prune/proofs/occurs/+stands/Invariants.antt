use Rattle.std.proofs.Common.{◌≡◌, drop}
use Rattle.tw_terms.specs.OpenView.{open_args_of}
use Rattle.tw_prune.specs.Walks.{stands_in_spine}
use Rattle.tw_prune.proofs.occurs.+stands.Given as goal

abbrev pub invariant-stands_in_spine-loop-arg : goal.invariant-stands_in_spine-loop-arg
invariant-stands_in_spine-loop-arg l = stands_in_spine l.meta.0 l.bound (open_args_of (drop l.arg-index l.arg-items)) ≡ stands_in_spine l.meta.0 l.bound (open_args_of l.arg-items)
