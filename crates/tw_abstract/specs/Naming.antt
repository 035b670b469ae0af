-- What recognizing a single metavariable computes.
use Rattle.std.specs.Prelude.{ℕ, ◌+◌, Option, Some, None, if◌then◌else◌}
use Rattle.lf.specs.Syntax.{Term, constant, lambda, metavariable, root, variable}
use Rattle.tw_prune.specs.Walks.{are_newest}

-- the metavariable of which the term is the eta-long form, after so many of its lambdas
abbrev pub sole_under : ℕ → Term → Option ℕ
sole_under count (lambda M) = sole_under (count + 1) M
sole_under count (root (constant c) S) = None
sole_under count (root (variable v) S) = None
sole_under count (root (metavariable m) S) = if are_newest count S then Some m else None
