-- The value of a variable, read off an instance of a type where the variable has a strict occurrence.
--
-- In `t (c x) ([y] F y)` with x and F as `some` variables the instance `t (c z) ([y] s y)` gives x the value `z`, and F the value `[y] s y`.
use Rattle.std.specs.Prelude.{ℕ, zero, suc, ◌-◌, List, [], ◌∷◌, Option, Some, None, cond}
use Rattle.lf.specs.Syntax.{constant, variable, metavariable, Term, Spine, lambda, root, nil, app, LfType, pi, atom, rename}
use Rattle.lf.specs.Variables.{same_number}
use Rattle.lf_checks.specs.Strict.{pattern_arguments}
use Rattle.tw_clause.specs.Patterns.{heads, newest}

-- the renaming that brings y in front of all variables
abbrev pub to_front : ℕ → ℕ → ℕ
to_front y j = cond (same_number j y) zero (suc j)

-- and the one that brings each nearer by n
abbrev pub nearer : ℕ → ℕ → ℕ
nearer n j = j - n

-- the lambdas that give T back at the variables ys
abbrev pub abstracted : List ℕ → Term → Term
abstracted [] T = T
abstracted (y ∷ ys) T = lambda (rename (to_front y) (abstracted ys T))

-- the value, outside the n newest variables, whose application to the variables ys is T
abbrev pub inverted : ℕ → List ℕ → Term → Term
inverted n ys T = rename (nearer n) (abstracted ys T)

-- the value of a variable that has the arguments S where T stands, if they are distinct ones of the n newest variables
abbrev pub standing : ℕ → Spine → Term → Option Term
standing n S T = cond (pattern_arguments (newest n) [] S) (Some (inverted n (heads S) T)) None

-- the first of two, if there is one
abbrev pub first_of : Option Term → Option Term → Option Term
first_of (Some v) w = Some v
first_of None w = w

-- the arguments of a root
abbrev pub arguments_of : Term → Spine
arguments_of (lambda T) = nil
arguments_of (root h U) = U

-- The value that the first strict occurrence of x gives it, where T stands for M and the n newest variables are bound.
abbrev mutual
  pub value_in : ℕ → ℕ → Term → Term → Option Term
  value_in n x (lambda M) (lambda T) = value_in (suc n) (suc x) M T
  value_in n x (lambda M) (root h U) = None
  value_in n x (root (constant c) S) T = value_in_spine n x S (arguments_of T)
  value_in n x (root (variable j) S) T = first_of (cond (same_number j x) (standing n S T) None) (cond (newest n j) (value_in_spine n x S (arguments_of T)) None)
  value_in n x (root (metavariable m) S) T = None

  -- the same of arguments
  pub value_in_spine : ℕ → ℕ → Spine → Spine → Option Term
  value_in_spine n x nil U = None
  value_in_spine n x (app M S) nil = None
  value_in_spine n x (app M S) (app T U) = first_of (value_in n x M T) (value_in_spine n x S U)

-- of a root whose head is the variable j
abbrev pub value_at : ℕ → ℕ → ℕ → Spine → Term → Option Term
value_at n x j S T = first_of (cond (same_number j x) (standing n S T) None) (cond (newest n j) (value_in_spine n x S (arguments_of T)) None)

-- of a type
abbrev pub value_in_type : ℕ → ℕ → LfType → LfType → Option Term
value_in_type n x (pi A B) (pi C D) = first_of (value_in_type n x A C) (value_in_type (suc n) (suc x) B D)
value_in_type n x (pi A B) (atom b U) = None
value_in_type n x (atom a S) (pi C D) = None
value_in_type n x (atom a S) (atom b U) = value_in_spine n x S U
