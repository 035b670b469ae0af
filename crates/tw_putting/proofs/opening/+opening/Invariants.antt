use Rattle.std.proofs.Common.{◌≡◌, map, take}
use Rattle.tw_terms.specs.OpenView.{open_term_of}
use Rattle.tw_terms.specs.View.{term_of}
use Rattle.tw_putting.proofs.opening.+opening.Given as goal

-- the arguments so far
abbrev pub invariant-open_spine-loop-arg : goal.invariant-open_spine-loop-arg
invariant-open_spine-loop-arg l = map open_term_of l.args.items ≡ map term_of (take l.arg-index l.arg-items)
