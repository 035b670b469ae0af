use Rattle.std.proofs.Common.{◌≡◌, map, take}
use Rattle.lf_search.specs.Goals.{with_heads}
use Rattle.tw_terms.specs.OpenView.{open_term_of}
use Rattle.tw_terms.specs.View.{term_of}
use Rattle.tw_search.specs.Roots.{heads_at}
use Rattle.tw_search.proofs.root.+over.Given as goal

-- the arguments so far
abbrev pub invariant-spine_over-loop-arg : goal.invariant-spine_over-loop-arg
invariant-spine_over-loop-arg l = map open_term_of l.args.items ≡ map (λ t. with_heads (heads_at l.count l.binders) (term_of t)) (take l.arg-index l.arg-items)
