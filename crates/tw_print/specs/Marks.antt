-- Marks of variables, one for each, the outermost first.
use Rattle.std.specs.Prelude.{ℕ, zero, suc, List, [], ◌∷◌, Bool, false, ◌||◌}
use Rattle.lf.specs.Syntax.{LfType, pi, atom, Kind, kind_pi, star}
use Rattle.tw_print.specs.Variables.{occurs_in_type, occurs_in_kind}

-- The marks with those of the variables for which f says yes; `depth` variables are in scope, of which the first mark is the outermost.
abbrev pub marked : ℕ → (ℕ → Bool) → List Bool → List Bool
marked zero f ms = ms
marked (suc depth) f [] = []
marked (suc depth) f (m ∷ ms) = (m || f depth) ∷ marked depth f ms

abbrev pub head_mark : List Bool → Bool
head_mark [] = false
head_mark (m ∷ ms) = m

-- for each leading quantifier, whether its variable occurs in the rest
abbrev pub marks_of : LfType → List Bool
marks_of (pi A B) = occurs_in_type 0 B ∷ marks_of B
marks_of (atom a S) = []

abbrev pub kind_marks_of : Kind → List Bool
kind_marks_of (kind_pi A K) = occurs_in_kind 0 K ∷ kind_marks_of K
kind_marks_of star = []
