use Rattle.std.proofs.Common.{◌≡◌, drop}
use Rattle.lf_unification.specs.Search.{occurs_spine}
use Rattle.tw_terms.specs.OpenView.{open_args_of, open_spine_of}
use Rattle.tw_search.proofs.occurs.+has.Given as goal

-- it occurs in what is left just where it does in the whole
abbrev pub invariant-spine_has-loop-arg : goal.invariant-spine_has-loop-arg
invariant-spine_has-loop-arg l = occurs_spine l.variable (open_spine_of l.spine) ≡ occurs_spine l.variable (open_args_of (drop l.arg-index l.arg-items))
