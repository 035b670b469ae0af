-- Arguments that are distinct variables, each one of the newest.
use Rattle.std.specs.Prelude.{ℕ, zero, suc, List, [], Bool, Option, Some, None, cond}
use Rattle.lf.specs.Syntax.{Spine, nil, app}
use Rattle.lf.specs.Variables.{everything, nothing, under}
use Rattle.lf_checks.specs.Strict.{head_variable, pattern_arguments, with_seen}

-- the n newest variables
abbrev pub newest : ℕ → ℕ → Bool
newest zero = nothing
newest (suc n) = under (newest n)

-- these, or all where no number is given
abbrev pub newest_of : Option ℕ → ℕ → Bool
newest_of (Some n) = newest n
newest_of None = everything

-- the variables at the heads of arguments, in order
abbrev pub heads : Spine → List ℕ
heads nil = []
heads (app M S) = with_seen (head_variable zero M) (heads S)

-- these, where the arguments are distinct variables of B
abbrev pub pattern_heads : (ℕ → Bool) → Spine → Option (List ℕ)
pattern_heads B S = cond (pattern_arguments B [] S) (Some (heads S)) None
