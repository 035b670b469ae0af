use Rattle.std.proofs.Common.{◌≡◌, drop}
use Rattle.tw_terms.specs.View.{args_of}
use Rattle.tw_prune.specs.Walks.{are_newest}
use Rattle.tw_query.proofs.sole.+eta.Given as goal

abbrev pub invariant-are_newest-loop-arg : goal.invariant-are_newest-loop-arg
invariant-are_newest-loop-arg l = are_newest l.left (args_of (drop l.arg-index l.arg-items)) ≡ are_newest l.count (args_of l.arg-items)
