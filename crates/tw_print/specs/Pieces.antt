-- A text as the tokens and spaces that it is made of.
use Rattle.std.specs.Prelude.{ℕ, List, [], ◌∷◌, ◌++◌, codes}

pub data Piece : Type 0 where
  token : List ℕ → Piece
  space : Piece

-- the bytes of a text
abbrev pub render : List Piece → List ℕ
render [] = []
render (token t ∷ ps) = t ++ render ps
render (space ∷ ps) = codes " " ++ render ps

abbrev pub in_parentheses : List Piece → List Piece
in_parentheses ps = (token (codes "(") ∷ ps) ++ token (codes ")") ∷ []
