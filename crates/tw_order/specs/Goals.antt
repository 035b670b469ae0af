-- The subgoals of a clause as a list.
use Rattle.std.specs.Prelude.{suc, List, [], ◌∷◌, ◌++◌, zero, Bool, true, false}
use Rattle.lf.specs.AtOnce.{shift_by}
use Rattle.lf.specs.Entries.{quantifiers}
use Rattle.lf.specs.Syntax.{LfType, pi, atom, rename_type}
use Rattle.lf_unification.specs.Search.{occurs_type}

-- a quantifier's type, unless its variable occurs
abbrev pub goal_here : Bool → LfType → List LfType
goal_here true A = []
goal_here false A = A ∷ []

-- The subgoals of a clause of this type, in solving order, each in the whole scope. Of `{X:nat} {Y:nat} {Z:nat} plus X Y Z -> plus (s X) Y (s Z)` it is
-- `plus X Y Z` alone, in which X, Y and Z are the variables 3, 2 and 1.
abbrev pub goals_of : LfType → List LfType
goals_of (pi A B) = goals_of B ++ goal_here (occurs_type zero B) (rename_type (shift_by (suc (quantifiers B))) A)
goals_of (atom a S) = []
