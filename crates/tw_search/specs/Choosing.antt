-- The heads that are still to be tried at a goal.
use Rattle.std.specs.Prelude.{ℕ, suc, List, [], ◌∷◌, cond, drop}
use Rattle.lf.specs.Constants.{constants_of}
use Rattle.lf.specs.Entries.{Entry}
use Rattle.lf.specs.Syntax.{Head, LfType, variable}
use Rattle.lf.specs.Variables.{same_number, target}
use Rattle.lf_unification.specs.Lists.{followed}
use Rattle.lf_unification.specs.Search.{constant_heads}

-- the local variables whose type targets the family a; the first is variable i
abbrev pub locals_for : ℕ → ℕ → List LfType → List Head
locals_for a i [] = []
locals_for a i (A ∷ D) = cond (same_number (target A) a) (variable i ∷ locals_for a (suc i) D) (locals_for a (suc i) D)

-- the constants of the family, from this place on
abbrev pub constants_left : List Entry → ℕ → ℕ → List Head
constants_left es a constant = constant_heads (drop constant (constants_of es a))

-- the local variables from `local` on, and then the constants
abbrev pub heads_left : List Entry → ℕ → List LfType → ℕ → ℕ → List Head
heads_left es a D local constant = followed (locals_for a local (drop local D)) (constants_left es a constant)
