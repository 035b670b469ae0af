-- How a sketch is laid out: its tokens and spaces, with the parentheses that are put.
use Rattle.std.specs.Prelude.{ℕ, List, [], ◌∷◌, ◌++◌, length, drop, nat_le, codes, Option, Some, None, Bool, cond}
use Rattle.tw_fixity.specs.declared.table.Fix.{Fix}
use Rattle.tw_fixity.specs.declared.table.Fix.TheVariants.{Infix, Prefix, Postfix}
use Rattle.tw_print.specs.Pieces.{Piece, token, space, in_parentheses}
use Rattle.tw_print.specs.Shown.{operand_count, no_text}
use Rattle.law_reading_back.specs.Sketches.{Manner, alone, row, operation, Sketch, Sketches, applied, arrow, quantified, abstracted, kind, too_deep, untyped, none, more}

-- a part with its parentheses
abbrev pub as_argument : Manner → List Piece → List Piece
as_argument alone ps = ps
as_argument row ps = in_parentheses ps
as_argument operation ps = in_parentheses ps

abbrev pub as_operand : Manner → List Piece → List Piece
as_operand alone ps = ps
as_operand row ps = ps
as_operand operation ps = in_parentheses ps

pub record Part : Type 0 where
  pub manner : Manner
  pub pieces : List Piece

abbrev pub argument : Part → List Piece
argument a = as_argument a.manner a.pieces

abbrev pub operand : Part → List Piece
operand a = as_operand a.manner a.pieces

-- each after one space
abbrev pub spaced : List Part → List Piece
spaced [] = []
spaced (a ∷ xs) = (space ∷ argument a) ++ spaced xs

abbrev pub plain : List ℕ → List Part → List Piece
plain word xs = token word ∷ spaced xs

-- an operator between, before or behind its operands, which are the first parts
abbrev pub operated : List ℕ → Fix → List Part → List Piece
operated word (Infix a n) (l ∷ r ∷ xs) = operand l ++ (space ∷ token word ∷ space ∷ operand r)
operated word (Infix a n) (l ∷ []) = []
operated word (Infix a n) [] = []
operated word (Prefix n) (x ∷ xs) = token word ∷ space ∷ operand x
operated word (Prefix n) [] = []
operated word (Postfix n) (x ∷ xs) = operand x ++ (space ∷ token word ∷ [])
operated word (Postfix n) [] = []

-- with further parts, in parentheses
abbrev pub followed : List Piece → List Part → List Piece
followed ps [] = ps
followed ps (a ∷ xs) = in_parentheses ps ++ spaced (a ∷ xs)

abbrev pub laid : List ℕ → Option Fix → List Part → List Piece
laid word (Some fix) xs = cond (nat_le (operand_count fix) (length xs)) (followed (operated word fix xs) (drop (operand_count fix) xs)) (plain word xs)
laid word None xs = plain word xs

-- a variable with its type, in its brackets
abbrev pub bracketed : List ℕ → List ℕ → List ℕ → List Piece → List Piece
bracketed opener x closer ps = (token opener ∷ token x ∷ token (codes ":") ∷ ps) ++ token closer ∷ space ∷ []

abbrev mutual
  pub pieces : Sketch → List Piece
  pieces (applied h word fix xs) = laid word fix (parts xs)
  pieces (arrow m t u) = (as_operand m (pieces t) ++ space ∷ token (codes "->") ∷ space ∷ []) ++ pieces u
  pieces (quantified x t u) = bracketed (codes "{") x (codes "}") (pieces t) ++ pieces u
  pieces (abstracted x t u) = bracketed (codes "[") x (codes "]") (pieces t) ++ pieces u
  pieces kind = token (codes "type") ∷ []
  pieces too_deep = no_text
  pieces untyped = []

  pub parts : Sketches → List Part
  parts none = []
  parts (more m t ts) = record { manner = m; pieces = pieces t } ∷ parts ts

-- the line of a declared family or constant with this name
abbrev pub line : List ℕ → Sketch → List Piece
line name t = (token name ∷ space ∷ token (codes ":") ∷ space ∷ pieces t) ++ token (codes ".") ∷ []

-- the line of a definition with this name, a type and a term at it, or of an abbreviation
abbrev pub definition_line : Bool → List ℕ → Sketch → Sketch → List Piece
definition_line b name t u = cond b (token (codes "%abbrev") ∷ space ∷ []) [] ++ ((token name ∷ space ∷ token (codes ":") ∷ space ∷ pieces t) ++ ((space ∷ token (codes "=") ∷ space ∷ pieces u) ++ token (codes ".") ∷ []))
