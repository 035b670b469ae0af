-- The metavariables of a term in order of first occurrence.
use Rattle.std.specs.Prelude.{◌≡◌, ℕ, List, [], ◌∷◌, ◌++◌, cond, is_some}
use Rattle.lf.specs.Syntax.{Head, LfType, Spine, Term, app, atom, constant, lambda, metavariable, nil, pi, root, variable}
use Rattle.tw_abstract.specs.Positions.{index}

-- one more at the end, where it isn't there yet
abbrev pub with_new : List ℕ → ℕ → List ℕ
with_new ms n = cond (is_some (index ms n)) ms (ms ++ n ∷ [])

-- all of these, in order, each where it isn't there yet
abbrev pub noted : List ℕ → List ℕ → List ℕ
noted ms [] = ms
noted ms (n ∷ ns) = noted (with_new ms n) ns

-- the second list goes on where the first ends
abbrev pub Extends : List ℕ → List ℕ → Type 0
Extends ms ms' = (ns : List ℕ) × (ms' ≡ ms ++ ns)

abbrev pub head_occurrences : Head → List ℕ
head_occurrences (constant c) = []
head_occurrences (variable i) = []
head_occurrences (metavariable m) = m ∷ []

abbrev mutual
  -- all occurrences from the left, with repeats
  pub occurrences : Term → List ℕ
  occurrences (lambda M) = occurrences M
  occurrences (root h S) = head_occurrences h ++ spine_occurrences S

  pub spine_occurrences : Spine → List ℕ
  spine_occurrences nil = []
  spine_occurrences (app M S) = occurrences M ++ spine_occurrences S

-- the same in a type
abbrev pub type_occurrences : LfType → List ℕ
type_occurrences (pi A B) = type_occurrences A ++ type_occurrences B
type_occurrences (atom a S) = spine_occurrences S
