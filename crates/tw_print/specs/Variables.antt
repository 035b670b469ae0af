-- Which variables occur.
use Rattle.std.specs.Prelude.{ℕ, suc, ◌==◌, Bool, false, ◌||◌}
use Rattle.lf.specs.Syntax.{Head, constant, variable, metavariable, Term, lambda, root, Spine, nil, app, LfType, pi, atom, Kind, kind_pi, star}

abbrev pub is_variable : ℕ → Head → Bool
is_variable i (constant c) = false
is_variable i (variable j) = j == i
is_variable i (metavariable m) = false

abbrev mutual
  pub occurs : ℕ → Term → Bool
  occurs i (lambda M) = occurs (suc i) M
  occurs i (root h S) = is_variable i h || occurs_in_spine i S

  pub occurs_in_spine : ℕ → Spine → Bool
  occurs_in_spine i nil = false
  occurs_in_spine i (app M S) = occurs i M || occurs_in_spine i S

abbrev pub occurs_in_type : ℕ → LfType → Bool
occurs_in_type i (pi A B) = occurs_in_type i A || occurs_in_type (suc i) B
occurs_in_type i (atom a S) = occurs_in_spine i S

abbrev pub occurs_in_kind : ℕ → Kind → Bool
occurs_in_kind i (kind_pi A K) = occurs_in_type i A || occurs_in_kind (suc i) K
occurs_in_kind i star = false
