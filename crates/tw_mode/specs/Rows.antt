-- The rows of a table of modes, and the places of a family with a mark.
use Rattle.std.specs.Prelude.{ℕ, List, Bool, Option, Some, None, cond, map, is_some}
use Rattle.std.specs.FinMap as finite
use Rattle.lf.specs.Variables.{same_number}
use Rattle.lf_checks.specs.Marks.{Mark, is_free, is_input, is_output}
use Rattle.lf_checks.specs.ModeRows.{or_no_marks}
use Rattle.tw_clause.specs.View.{mark_of}
use Rattle.tw_clause.specs.declared.name.Mark3.{Mark3}
use Rattle.tw_clause.specs.declared.name.Mark3.TheVariants.{Plus, Minus, Free}
use Rattle.tw_mode.specs.declared.table.Row.{Row}
use Rattle.tw_mode.specs.declared.table.Table.{Table}

-- the marks by one more row, which counts for its family
abbrev pub with_row : Option Row → (ℕ → Option (List Mark)) → ℕ → Option (List Mark)
with_row None r f = r f
with_row (Some w) r f = cond (same_number w.family.0 f) (Some (map mark_of w.marks.now)) (r f)

-- the marks of a family, if it has a row
abbrev pub row_in : Table → ℕ → Option (List Mark)
row_in t f = with_row t.over (finite.get t.rows.now) f

-- its marks, or none
abbrev pub marks_in : Table → ℕ → List Mark
marks_in t f = or_no_marks (row_in t f)

-- it has a row
abbrev pub moded_in : Table → ℕ → Bool
moded_in t f = is_some (row_in t f)

-- it is this mark
abbrev pub is_with : Mark3 → Mark → Bool
is_with Plus = is_input
is_with Minus = is_output
is_with Free = is_free

-- the places with this mark: those of `+` are the input places
abbrev pub places_with : Mark3 → List Mark → List Bool
places_with wanted m = map (is_with wanted) m
