-- The clause of an entry of a block, by its number.
use Rattle.std.specs.Prelude.{ℕ, suc, List, [], ◌∷◌, length, Option, Some, None, cond}
use Rattle.lf.specs.Syntax.{LfType}
use Rattle.lf.specs.Subordination.{Block}
use Rattle.lf.specs.Variables.{same_number}
use Rattle.lf_checks.specs.Clause.{Clause, entry_clause}

-- Entry k of these entries of the block, which have the newest in front; the oldest has the number 1. In `block {x:nat} {u:plus x x x}` entry 2 is that of
-- `plus x x x`, with x outside.
abbrev pub entry_clause_at : Block → ℕ → List LfType → Option Clause
entry_clause_at B k [] = None
entry_clause_at B k (E ∷ es) = cond (same_number (suc (length es)) k) (Some (entry_clause B es E)) (entry_clause_at B k es)
