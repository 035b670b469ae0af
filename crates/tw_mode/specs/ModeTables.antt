-- Tables of modes as finite maps, and as rows.
use Rattle.std.specs.Prelude.{◌≡◌, ℕ, zero, suc, List, [], ◌∷◌, map, Vec, refl}
use Rattle.std.specs.Coded.{Coded, code_by, coded_ℕ, coded_list}
use Rattle.std.specs.FinMap as finite
use Rattle.std.specs.Global.{Global}
use Rattle.std.specs.Ordering.{nat_cmp}
use Rattle.lf_checks.specs.Marks.{Mark, input, output, free}
use Rattle.lf_checks.specs.ModeRows.{ModeRow}
use Rattle.tw_clause.specs.View.{mark_of}
use Rattle.tw_clause.specs.declared.name.Mark3.{Mark3}

-- the number of a mark, and the mark of a number
abbrev pub mark_number : Mark → ℕ
mark_number input = 0
mark_number output = 1
mark_number free = 2

abbrev pub numbered_mark : ℕ → Mark
numbered_mark zero = input
numbered_mark (suc zero) = output
numbered_mark (suc (suc n)) = free

pub numbers_back : (b : Mark) → numbered_mark (mark_number b) ≡ b
numbers_back input = refl
numbers_back output = refl
numbers_back free = refl

abbrev pub mark_code : Coded Mark
mark_code = code_by ℕ coded_ℕ mark_number numbered_mark numbers_back

abbrev pub marks_code : Coded (List Mark)
marks_code = coded_list mark_code

-- the marks of families, by their numbers
abbrev pub MarksByFamily : Type 0
MarksByFamily = finite.FinMap nat_cmp (List Mark)

-- the map that these entries make
abbrev pub rows_map : List (ℕ × Vec Mark3 Global) → MarksByFamily
rows_map [] = finite.empty
rows_map (e ∷ es) = finite.insert (rows_map es) e.0 (map mark_of e.1.items)

abbrev pub mode_row : ℕ × List Mark → ModeRow
mode_row e = record { family = e.0; marks = e.1 }

-- its rows, by the numbers of families
abbrev pub mode_rows : MarksByFamily → List ModeRow
mode_rows m = map mode_row (finite.entries m)
