-- The groups of these tests, with their modes and blocks.
use Rattle.std.specs.Prelude.{ℕ, List, [], ◌∷◌}
use Rattle.lf.specs.Entries.{signature_of}
use Rattle.lf.specs.Subordination.{Block}
use Rattle.lf_checks.specs.Marks.{input}
use Rattle.lf_checks.specs.ModeRows.{ModeRow, marks_of}
use Rattle.lf_checks.specs.Order.{place}
use Rattle.lf_totality.specs.Group.{Checked}
use Rattle.lf_totality.specs.Record.{IsRecordOf}
use Rattle.tw_total.specs.View.{OrderRow}
use Rattle.tests_total.specs.Declared.{declared, t_type}

-- a block {u:t} under a label of one letter
abbrev pub block_named : ℕ → Block
block_named l = record { label = l ∷ []; some = []; entries = t_type ∷ [] }

-- ok +X. yes +X.
abbrev pub mode_rows : List ModeRow
mode_rows = record { family = 3; marks = input ∷ [] } ∷ record { family = 5; marks = input ∷ [] } ∷ []

-- a group of one family, by its argument
abbrev pub group_of : ℕ → List OrderRow
group_of f = record { family = f; order = place 1 } ∷ []

-- what the record of ok is, in the worlds of the block b
abbrev pub IsFirst : Checked → Type 0
IsFirst Q = IsRecordOf (signature_of declared) (3 ∷ []) (marks_of mode_rows) (block_named 98 ∷ []) [] Q
