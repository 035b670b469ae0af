-- The entries of blocks and of the worlds of records, and what is below those.
use Rattle.std.specs.Prelude.{ℕ, List, ◌++◌, map}
use Rattle.std.specs.List.{flat_map}
use Rattle.lf.specs.Subordination.{Block}
use Rattle.lf.specs.Syntax.{LfType}
use Rattle.lf.specs.Variables.{target}
use Rattle.lf_totality.specs.Group.{Checked}
use Rattle.tw_subord.specs.Rows.{row}

abbrev pub entries_of : List Block → List LfType
entries_of W = flat_map (λ B. B.entries) W

abbrev pub entries_of_records : List Checked → List LfType
entries_of_records Qs = flat_map (λ Q. entries_of Q.worlds) Qs

-- each family with those below it
abbrev pub rows_below : List (List ℕ) → List ℕ → List (ℕ × List ℕ)
rows_below rows fs = map (λ f. (f, row rows f)) fs

-- the families below the targets of these types
abbrev pub below_targets : List (List ℕ) → List LfType → List ℕ
below_targets rows Es = flat_map (λ E. row rows (target E)) Es

-- what a group freezes with these worlds: what is below each of its families and below the target of each entry
abbrev pub to_be_frozen : List (List ℕ) → List ℕ → List Block → List ℕ
to_be_frozen rows fs W = flat_map (row rows) fs ++ below_targets rows (entries_of W)
