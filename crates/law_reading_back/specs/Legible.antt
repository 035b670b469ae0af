-- What a sketch has to be for its text to be read.
use Rattle.std.specs.Prelude.{◌≡◌, ◌≤◌, ℕ, zero, suc, Option, Some, None}
use Rattle.std.specs.FinMap.{get}
use Rattle.tw_fixity.specs.declared.table.Fix.{Fix}
use Rattle.tw_parse.specs.Outlines.{Table}
use Rattle.tw_print.specs.Shown.{operand_count}
use Rattle.law_reading_back.specs.Names.{IsName}
use Rattle.law_reading_back.specs.Sketches.{Manner, alone, row, operation, Sketch, Sketches, applied, arrow, quantified, abstracted, kind, too_deep, untyped, none, more}

abbrev mutual
  -- nothing in it nests too deep to be shown
  pub IsWhole : Sketch → Type 0
  IsWhole (applied h word fix xs) = AreWhole xs
  IsWhole (arrow m t u) = IsWhole t × IsWhole u
  IsWhole (quantified x t u) = IsWhole t × IsWhole u
  IsWhole (abstracted x t u) = IsWhole t × IsWhole u
  IsWhole kind = Unit {0}
  IsWhole too_deep = ⊥
  IsWhole untyped = Unit {0}

  pub AreWhole : Sketches → Type 0
  AreWhole none = Unit {0}
  AreWhole (more m t ts) = IsWhole t × AreWhole ts

abbrev pub count : Sketches → ℕ
count none = zero
count (more m t ts) = suc (count ts)

-- as many parts as an operator has operands
abbrev pub HasOperands : Option Fix → ℕ → Type 0
HasOperands None k = Unit {0}
HasOperands (Some fix) k = operand_count fix ≤ k

-- the part is of this manner, as an argument or an operand
abbrev pub Suits : Manner → Sketch → Type 0
Suits alone (applied h word fix none) = Unit {0}
Suits alone _ = ⊥
Suits row (applied h word None xs) = Unit {0}
Suits row _ = ⊥
Suits operation t = Unit {0}

-- the same on the left of an arrow, where an operator with its operands needs no parentheses
abbrev pub SuitsDomain : Manner → Sketch → Type 0
SuitsDomain alone t = ⊥
SuitsDomain row (applied h word fix xs) = Unit {0}
SuitsDomain row _ = ⊥
SuitsDomain operation t = Unit {0}

abbrev mutual
  -- each word is a name, with the row by which it is shown, and as many parts as that asks for; parentheses stand where they are needed
  pub IsLegible : Table → Sketch → Type 0
  IsLegible table (applied h word fix xs) = IsName word × (get table word ≡ fix) × HasOperands fix (count xs) × AreLegible table xs
  IsLegible table (arrow m t u) = SuitsDomain m t × IsLegible table t × IsLegible table u
  IsLegible table (quantified x t u) = IsName x × IsLegible table t × IsLegible table u
  IsLegible table (abstracted x t u) = IsName x × IsLegible table t × IsLegible table u
  IsLegible table kind = Unit {0}
  IsLegible table too_deep = ⊥
  IsLegible table untyped = ⊥

  pub AreLegible : Table → Sketches → Type 0
  AreLegible table none = Unit {0}
  AreLegible table (more m t ts) = Suits m t × IsLegible table t × AreLegible table ts
