-- Whether a metavariable occurs.
use Rattle.std.specs.Prelude.{Bool, true, false, ◌||◌}
use Rattle.lf.specs.Syntax.{Head, LfType, Spine, Term, app, atom, constant, lambda, metavariable, nil, pi, root, variable}

-- the head is a metavariable
abbrev pub is_metavariable : Head → Bool
is_metavariable (constant c) = false
is_metavariable (variable i) = false
is_metavariable (metavariable m) = true

abbrev mutual
  -- a metavariable occurs in the term
  pub has_metavariable : Term → Bool
  has_metavariable (lambda M) = has_metavariable M
  has_metavariable (root h S) = is_metavariable h || has_metavariable_in_spine S

  -- one occurs in an argument
  pub has_metavariable_in_spine : Spine → Bool
  has_metavariable_in_spine nil = false
  has_metavariable_in_spine (app M S) = has_metavariable M || has_metavariable_in_spine S

-- one occurs in the type
abbrev pub has_metavariable_in_type : LfType → Bool
has_metavariable_in_type (pi A B) = has_metavariable_in_type A || has_metavariable_in_type B
has_metavariable_in_type (atom a S) = has_metavariable_in_spine S
