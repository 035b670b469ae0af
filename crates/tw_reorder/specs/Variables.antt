-- The free variables of terms and types.
use Rattle.std.specs.Prelude.{ℕ, suc, ◌-◌, List, [], ◌∷◌, ◌++◌, nat_lt, if◌then◌else◌}
use Rattle.lf.specs.Syntax.{Head, LfType, Spine, Term, app, atom, constant, lambda, metavariable, nil, pi, root, variable}

abbrev pub head_variables : ℕ → Head → List ℕ
head_variables k (constant c) = []
head_variables k (variable i) = if nat_lt i k then [] else (i - k) ∷ []
head_variables k (metavariable m) = []

abbrev mutual
  -- The variables outside of the k newest, without which they are counted, from the left, with repeats. Of `[x] f y (g x y)` they are y and y.
  pub variables : ℕ → Term → List ℕ
  variables k (lambda M) = variables (suc k) M
  variables k (root h S) = head_variables k h ++ spine_variables k S

  pub spine_variables : ℕ → Spine → List ℕ
  spine_variables k nil = []
  spine_variables k (app M S) = variables k M ++ spine_variables k S

-- the same of a type
abbrev pub type_variables : ℕ → LfType → List ℕ
type_variables k (pi A B) = type_variables k A ++ type_variables (suc k) B
type_variables k (atom a S) = spine_variables k S

-- and of terms, one after the other
abbrev pub variables_of_all : List Term → List ℕ
variables_of_all [] = []
variables_of_all (M ∷ Ms) = variables 0 M ++ variables_of_all Ms
