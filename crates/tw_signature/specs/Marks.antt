-- Marks of variables, one for each, the outermost first.
use Rattle.std.specs.Prelude.{ℕ, zero, suc, List, [], ◌∷◌, Bool, false}
use Rattle.lf.specs.Syntax.{Head, constant, variable, metavariable}
use Rattle.lf.specs.Variables.{same_number}
use Rattle.lf_unification.specs.Search.{either}

-- whether the head is this variable
abbrev pub is_variable : ℕ → Head → Bool
is_variable i (constant c) = false
is_variable i (variable j) = same_number i j
is_variable i (metavariable m) = false

-- The marks with those of the variables for which f says yes; `depth` variables are in scope, of which the first mark is the outermost. With three variables
-- in scope and marks of the two outer ones, `marked 3 f (false ∷ true ∷ [])` is `f 2 ∷ true ∷ []`.
abbrev pub marked : ℕ → (ℕ → Bool) → List Bool → List Bool
marked zero f ms = ms
marked (suc depth) f [] = []
marked (suc depth) f (m ∷ ms) = either m (f depth) ∷ marked depth f ms
