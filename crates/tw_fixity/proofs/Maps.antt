-- The map of a list of rows answers as the list does.
use Rattle.std.proofs.Common.{◌≡◌, sym, ap, subst, ◌∙◌, ℕ, List, [], ◌∷◌, Vec, Global, Bool, true, false, cond, Option, None, Some, ⊎_elim}
use Rattle.std.proofs.lemmas.Bool.{cases_Bool, cond-true, cond-false}
use Rattle.std.proofs.lemmas.Map.Text.{is_eq-slice_cmp}
use Rattle.std.specs.Cmp.Lexicographic.{nat_list_cmp_total, nat_list_eq_equiv, bytes_decides}
use Rattle.std.specs.FinMap.{get, insert, remove, get-empty, get-insert, get-remove, same_map, slice_cmp-IsAntisymmetric, nat_cmp-IsAntisymmetric}
use Rattle.std.specs.Map.{lookup, KeepsOthers}
use Rattle.std.specs.Ordering.{eq_by_cmp}
use Rattle.std.specs.Str.{bytes_eq}
use Rattle.tw_fixity.specs.Rows.{name_order, rows_of}
use Rattle.tw_fixity.specs.declared.table.Fix.{Fix}

-- whether a key is this name, and two keys are the same
abbrev pub is_named : List ℕ → Vec ℕ Global → Bool
is_named name key = bytes_eq name key.items

abbrev pub is_same_key : Vec ℕ Global → Vec ℕ Global → Bool
is_same_key x y = bytes_eq x.items y.items

-- names are the same by their order just where they have the same bytes
same_by_order : (p q : List ℕ) → eq_by_cmp name_order p q ≡ bytes_eq p q
same_by_order p q = is_eq-slice_cmp p q

pub get_rows : (rows : List (Vec ℕ Global × Fix)) (name : List ℕ) → get (rows_of rows) name ≡ lookup (is_named name) rows
get_rows [] name = get-empty name_order name
get_rows (row ∷ rows) name =
    get-insert nat_list_cmp_total (rows_of rows) row.0.items row.1 name
    ∙ ap (λ c. cond c (Some row.1) (get (rows_of rows) name)) (same_by_order name row.0.items)
    ∙ ap (cond (is_named name row.0) (Some row.1)) (get_rows rows name)

apart : (p q k : List ℕ) → bytes_eq p q ≡ false → bytes_eq q k ≡ true → bytes_eq p k ≡ false
apart p q k differ tie = nat_list_eq_equiv.symm p k ∙ sym (nat_list_eq_equiv.congr q k p tie) ∙ nat_list_eq_equiv.symm q p ∙ differ

others_stay : (old new : List (Vec ℕ Global × Fix)) (name : List ℕ) → KeepsOthers is_same_key (is_named name) old new
    → (other : List ℕ) → bytes_eq other name ≡ false → lookup (is_named other) new ≡ lookup (is_named other) old
unfolding KeepsOthers
others_stay old new name keeps other differ =
    keeps (is_named other) (λ x y. nat_list_eq_equiv.congr other x.items y.items) (λ k. apart other name k.items differ)

-- after a change of one name's row
changed : (old new : List (Vec ℕ Global × Fix)) (name : List ℕ) (row : Option Fix) → lookup (is_named name) new ≡ row → KeepsOthers is_same_key (is_named name) old new
    → (other : List ℕ) → get (rows_of new) other ≡ cond (eq_by_cmp name_order other name) row (get (rows_of old) other)
changed old new name row here keeps other =
    ⊎_elim
    (λ tie. get_rows new other ∙ subst (λ n. lookup (is_named n) new ≡ row) (sym ((bytes_decides other name).0 tie)) here ∙ sym (cond-true _ row (get (rows_of old) other) (same_by_order other name ∙ tie)))
    (λ differ. get_rows new other ∙ others_stay old new name keeps other differ ∙ sym (get_rows old other) ∙ sym (cond-false _ row (get (rows_of old) other) (same_by_order other name ∙ differ)))
    (cases_Bool (bytes_eq other name))

pub set_row : (old new : List (Vec ℕ Global × Fix)) (name : List ℕ) (row : Fix) → lookup (is_named name) new ≡ Some row → KeepsOthers is_same_key (is_named name) old new
    → rows_of new ≡ insert (rows_of old) name row
set_row old new name row here keeps =
    same_map nat_list_cmp_total (slice_cmp-IsAntisymmetric nat_cmp-IsAntisymmetric) _ _
    (λ q. changed old new name (Some row) here keeps q ∙ sym (get-insert nat_list_cmp_total (rows_of old) name row q))

pub remove_row : (old new : List (Vec ℕ Global × Fix)) (name : List ℕ) → lookup (is_named name) new ≡ None → KeepsOthers is_same_key (is_named name) old new
    → rows_of new ≡ remove (rows_of old) name
remove_row old new name here keeps =
    same_map nat_list_cmp_total (slice_cmp-IsAntisymmetric nat_cmp-IsAntisymmetric) _ _
    (λ q. changed old new name None here keeps q ∙ sym (get-remove nat_list_cmp_total (rows_of old) name q))
