use Rattle.std.proofs.Common.{◌≡◌, ◌++◌, drop, map}
use Rattle.tw_terms.specs.OpenView.{open_args_of}
use Rattle.tw_abstract.specs.Occurrences.{spine_occurrences}
use Rattle.tw_abstract.proofs.listing.+listing.Given as goal

-- what is listed so far, with the rest, is the whole
abbrev pub invariant-list_spine-loop-arg : goal.invariant-list_spine-loop-arg
invariant-list_spine-loop-arg l = map (λ n. n.0) l.fn.list.items ++ spine_occurrences (open_args_of l.arg-items) ≡ map (λ n. n.0) l.list.items ++ spine_occurrences (open_args_of (drop l.arg-index l.arg-items))
