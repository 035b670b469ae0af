-- The rows of a table of operators.
use Rattle.std.specs.Prelude.{◌≡◌, refl, ℕ, List, [], ◌∷◌, Vec, ◌==◌, if◌then◌else◌}
use Rattle.std.specs.Global.{Global}
use Rattle.std.specs.Coded.{Coded, coded_ℕ, coded×, coded_list, code_by}
use Rattle.std.specs.Ordering.{nat_cmp}
use Rattle.std.specs.Cmp.Lexicographic.{slice_cmp}
use Rattle.std.specs.declared.cmp.Ordering.{Ordering}
use Rattle.std.specs.FinMap.{FinMap, empty, insert}
use Rattle.tw_fixity.specs.declared.table.Assoc.TheVariants.{Neither, Left, Right}
use Rattle.tw_fixity.specs.declared.table.Fix.{Fix}
use Rattle.tw_fixity.specs.declared.table.Fix.TheVariants.{Infix, Prefix, Postfix}

-- the order of names as lists of bytes
abbrev pub name_order : List ℕ → List ℕ → Ordering
name_order = slice_cmp nat_cmp

abbrev pub name_code : Coded (List ℕ)
name_code = coded_list coded_ℕ

-- a row as two numbers: where it stands, and its precedence
abbrev pub code_of_fix : Fix → ℕ × ℕ
code_of_fix (Infix Neither p) = (0, p)
code_of_fix (Infix Left p) = (1, p)
code_of_fix (Infix Right p) = (2, p)
code_of_fix (Prefix p) = (3, p)
code_of_fix (Postfix p) = (4, p)

abbrev pub fix_with_code : ℕ × ℕ → Fix
fix_with_code (k, p) = if k == 0 then Infix Neither p else if k == 1 then Infix Left p else if k == 2 then Infix Right p else if k == 3 then Prefix p else Postfix p

pub fix_with_code_of : (f : Fix) → fix_with_code (code_of_fix f) ≡ f
fix_with_code_of (Infix Neither p) = refl
fix_with_code_of (Infix Left p) = refl
fix_with_code_of (Infix Right p) = refl
fix_with_code_of (Prefix p) = refl
fix_with_code_of (Postfix p) = refl

abbrev pub fix_code : Coded Fix
fix_code = code_by (ℕ × ℕ) (coded× coded_ℕ coded_ℕ) code_of_fix fix_with_code fix_with_code_of

-- the map that these rows make
abbrev pub rows_of : List (Vec ℕ Global × Fix) → FinMap name_order Fix
rows_of [] = empty
rows_of (row ∷ rows) = insert (rows_of rows) row.0.items row.1
