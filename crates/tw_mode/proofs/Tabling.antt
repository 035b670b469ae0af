-- A table of modes answers as its entries do, and as its rows do.
use Rattle.std.proofs.Common.{◌≡◌, sym, ap, ap₂, subst, ◌∙◌, ℕ, List, [], ◌∷◌, Bool, true, false, cond, map, Option, None, Some, Vec, Global, ⊎_elim, refl}
use Rattle.std.proofs.lemmas.Bool.{cases_Bool, cond-true, cond-false}
use Rattle.std.specs.Cmp.{eq_by_cmp_equiv, nat_cmp_total, Equal-is}
use Rattle.std.specs.FinMap.{entries, find, get, insert, get-empty, get-entries, get-insert, same_map, nat_cmp-IsAntisymmetric}
use Rattle.std.specs.Borrow.{Bor}
use Rattle.std.specs.Option.{option_map, option_copied}
use Rattle.std.specs.Map.{lookup, KeepsOthers}
use Rattle.std.specs.Ordering.{nat_cmp, is_eq, eq_by_cmp}
use Rattle.lf.specs.Variables.{same_number}
use Rattle.lf_checks.specs.Marks.{Mark}
use Rattle.lf_checks.specs.ModeRows.{row_of}
use Rattle.tw_clause.specs.View.{mark_of}
use Rattle.tw_clause.specs.declared.name.Mark3.{Mark3}
use Rattle.tw_mode.specs.ModeTables.{MarksByFamily, mode_row, mode_rows, rows_map}
use Rattle.tw_mode.specs.Rows.{with_row}
use Rattle.tw_mode.specs.declared.table.Row.{Row}
use Rattle.lf.proofs.Checker.{number_is}
use Rattle.tw_signature.proofs.Marking.{same_not, same_self}

abbrev pub Marks : Type 0
Marks = Vec Mark3 Global

abbrev pub marks_in : Marks → List Mark
marks_in v = map mark_of v.items

-- whether a key is this number
abbrev pub is_number : ℕ → ℕ → Bool
is_number n key = is_eq (nat_cmp n key)

abbrev pub seen : Option Marks → Option (List Mark)
seen (Some v) = Some (marks_in v)
seen None = None

-- what a look-up that lends the marks gives
pub seen_lent : (o : Option (Bor Marks)) → option_map (λ p. marks_in p.now) o ≡ seen (option_copied o)
seen_lent (Some p) = refl
seen_lent None = refl

seen_cond : (b : Bool) (v : Marks) (o : Option Marks) → cond b (Some (marks_in v)) (seen o) ≡ seen (cond b (Some v) o)
seen_cond true v o = refl
seen_cond false v o = refl

pub get_rows : (rows : List (ℕ × Marks)) (n : ℕ) → get (rows_map rows) n ≡ seen (lookup (is_number n) rows)
get_rows [] n = get-empty nat_cmp n
get_rows (row ∷ rows) n = get-insert nat_cmp_total (rows_map rows) row.0 (marks_in row.1) n ∙ ap (cond (is_number n row.0) (Some (marks_in row.1))) (get_rows rows n) ∙ seen_cond (is_number n row.0) row.1 (lookup (is_number n) rows)

same_key : (p q : ℕ) → is_eq (nat_cmp p q) ≡ true → p ≡ q
same_key p q h = nat_cmp-IsAntisymmetric p q ((Equal-is (nat_cmp p q)).0 h)

apart : (p q k : ℕ) → is_eq (nat_cmp p q) ≡ false → is_eq (nat_cmp q k) ≡ true → is_eq (nat_cmp p k) ≡ false
apart p q k differ tie =
    let laws = eq_by_cmp_equiv nat_cmp_total in
    laws.symm p k ∙ sym (laws.congr q k p tie) ∙ laws.symm q p ∙ differ

others_stay : (old new : List (ℕ × Marks)) (name : ℕ) → KeepsOthers (λ x y. is_eq (nat_cmp x y)) (is_number name) old new
    → (other : ℕ) → is_eq (nat_cmp other name) ≡ false → lookup (is_number other) new ≡ lookup (is_number other) old
unfolding KeepsOthers
others_stay old new name keeps other differ =
    keeps (is_number other) (λ x y. (eq_by_cmp_equiv nat_cmp_total).congr other x y) (λ k. apart other name k differ)

-- after a change of one row
changed : (old new : List (ℕ × Marks)) (name : ℕ) (row : Marks) → lookup (is_number name) new ≡ Some row
    → KeepsOthers (λ x y. is_eq (nat_cmp x y)) (is_number name) old new
    → (other : ℕ) → get (rows_map new) other ≡ cond (eq_by_cmp nat_cmp other name) (Some (marks_in row)) (get (rows_map old) other)
changed old new name row here keeps other =
    ⊎_elim
    (λ tie. get_rows new other ∙ ap seen (subst (λ n. lookup (is_number n) new ≡ Some row) (sym (same_key other name tie)) here) ∙ sym (cond-true _ (Some (marks_in row)) (get (rows_map old) other) tie))
    (λ differ. get_rows new other ∙ ap seen (others_stay old new name keeps other differ) ∙ sym (get_rows old other) ∙ sym (cond-false _ (Some (marks_in row)) (get (rows_map old) other) differ))
    (cases_Bool (eq_by_cmp nat_cmp other name))

pub set_row : (old new : List (ℕ × Marks)) (name : ℕ) (row : Marks) → lookup (is_number name) new ≡ Some row
    → KeepsOthers (λ x y. is_eq (nat_cmp x y)) (is_number name) old new → rows_map new ≡ insert (rows_map old) name (marks_in row)
set_row old new name row here keeps =
    same_map nat_cmp_total nat_cmp-IsAntisymmetric _ _
    (λ q. changed old new name row here keeps q ∙ sym (get-insert nat_cmp_total (rows_map old) name (marks_in row) q))

-- the two tests of numbers
pub same_tests : (q k : ℕ) → eq_by_cmp nat_cmp q k ≡ same_number k q
same_tests q k =
    ⊎_elim
    (λ tie. tie ∙ sym (ap (same_number k) (same_key q k tie) ∙ same_self k))
    (λ differ. differ ∙ sym (no_tie (same_number k q) refl differ))
    (cases_Bool (eq_by_cmp nat_cmp q k))
  where
    tied : (q : ℕ) → eq_by_cmp nat_cmp q q ≡ true
    tied q = (eq_by_cmp_equiv nat_cmp_total).refl q

    no_tie : (b : Bool) → same_number k q ≡ b → eq_by_cmp nat_cmp q k ≡ false → same_number k q ≡ false
    no_tie true e d = absurd (let s : true ≡ false = sym (tied q) ∙ ap (eq_by_cmp nat_cmp q) (sym (number_is k q e)) ∙ d in cc)
    no_tie false e d = e

rows_of_entries : (es : List (ℕ × List Mark)) (f : ℕ) → find nat_cmp f es ≡ row_of (map mode_row es) f
rows_of_entries [] f = refl
rows_of_entries (e ∷ es) f = ap₂ (λ b o. cond b (Some e.1) o) (same_tests f e.0) (rows_of_entries es f)

-- the rows of a table have what the table has
pub rows_have : (m : MarksByFamily) (f : ℕ) → get m f ≡ row_of (mode_rows m) f
rows_have m f = get-entries m f ∙ rows_of_entries (entries m) f

-- a table with one more row
pub row_over : (m : MarksByFamily) (k : ℕ) (ms : List Mark) (f : ℕ) → cond (same_number k f) (Some ms) (get m f) ≡ get (insert m k ms) f
row_over m k ms f = sym (get-insert nat_cmp_total m k ms f ∙ ap (λ b. cond b (Some ms) (get m f)) (same_tests f k))

-- a look-up in rows with one over them
module _ (r : ℕ → Option (List Mark)) (f : ℕ) where
  pub over_found : (o : Option Row) (w : Row) → o ≡ Some w → w.family.0 ≡ f → Some (map mark_of w.marks.now) ≡ with_row o r f
  over_found o w e h = sym (ap (λ x. with_row x r f) e ∙ ap (λ b. cond b (Some (map mark_of w.marks.now)) (r f)) (ap (λ n. same_number n f) h ∙ same_self f))

  pub over_passed : (o : Option Row) (w : Row) → o ≡ Some w → (w.family.0 ≡ f → ⊥) → r f ≡ with_row o r f
  over_passed o w e h = sym (ap (λ x. with_row x r f) e ∙ ap (λ b. cond b (Some (map mark_of w.marks.now)) (r f)) (same_not w.family.0 f h))

  pub none_over : (o : Option Row) → o ≡ None → r f ≡ with_row o r f
  none_over o e = sym (ap (λ x. with_row x r f) e)
