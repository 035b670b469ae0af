-- The map of a list of rows answers as the list does.
use Rattle.std.proofs.Common.{◌≡◌, sym, ap, subst, ◌∙◌, ℕ, List, [], ◌∷◌, Bool, true, false, cond, Option, None, Some, ⊎_elim, refl}
use Rattle.std.proofs.lemmas.Bool.{cases_Bool, cond-true, cond-false}
use Rattle.std.specs.Cmp.{eq_by_cmp_equiv, nat_cmp_total, Equal-is}
use Rattle.std.specs.FinMap.{get, insert, get-empty, get-insert, same_map, nat_cmp-IsAntisymmetric}
use Rattle.std.specs.Borrow.{Bor}
use Rattle.std.specs.Option.{option_map, option_copied}
use Rattle.std.specs.Map.{lookup, KeepsOthers}
use Rattle.std.specs.Ordering.{nat_cmp, is_eq, eq_by_cmp}
use Rattle.tw_print.specs.Names.{Preferences}
use Rattle.tw_print.specs.View.{preferences_of, preference_rows}
use Rattle.tw_print.specs.declared.names.Preference.{Preference}

-- whether a key is this number
abbrev pub is_number : ℕ → ℕ → Bool
is_number n key = is_eq (nat_cmp n key)

abbrev pub seen : Option Preference → Option Preferences
seen (Some p) = Some (preferences_of p)
seen None = None

-- what a look-up that lends the row gives
pub seen_lent : (o : Option (Bor Preference)) → option_map (λ p. preferences_of p.now) o ≡ seen (option_copied o)
seen_lent (Some p) = refl
seen_lent None = refl

seen_cond : (b : Bool) (p : Preference) (o : Option Preference) → cond b (Some (preferences_of p)) (seen o) ≡ seen (cond b (Some p) o)
seen_cond true p o = refl
seen_cond false p o = refl

pub get_rows : (rows : List (ℕ × Preference)) (n : ℕ) → get (preference_rows rows) n ≡ seen (lookup (is_number n) rows)
get_rows [] n = get-empty nat_cmp n
get_rows (row ∷ rows) n = get-insert nat_cmp_total (preference_rows rows) row.0 (preferences_of row.1) n ∙ ap (cond (is_number n row.0) (Some (preferences_of row.1))) (get_rows rows n) ∙ seen_cond (is_number n row.0) row.1 (lookup (is_number n) rows)

same_key : (p q : ℕ) → is_eq (nat_cmp p q) ≡ true → p ≡ q
same_key p q h = nat_cmp-IsAntisymmetric p q ((Equal-is (nat_cmp p q)).0 h)

apart : (p q k : ℕ) → is_eq (nat_cmp p q) ≡ false → is_eq (nat_cmp q k) ≡ true → is_eq (nat_cmp p k) ≡ false
apart p q k differ tie =
    let laws = eq_by_cmp_equiv nat_cmp_total in
    laws.symm p k ∙ sym (laws.congr q k p tie) ∙ laws.symm q p ∙ differ

others_stay : (old new : List (ℕ × Preference)) (name : ℕ) → KeepsOthers (λ x y. is_eq (nat_cmp x y)) (is_number name) old new
    → (other : ℕ) → is_eq (nat_cmp other name) ≡ false → lookup (is_number other) new ≡ lookup (is_number other) old
unfolding KeepsOthers
others_stay old new name keeps other differ =
    keeps (is_number other) (λ x y. (eq_by_cmp_equiv nat_cmp_total).congr other x y) (λ k. apart other name k differ)

-- after a change of one row
changed : (old new : List (ℕ × Preference)) (name : ℕ) (row : Preference) → lookup (is_number name) new ≡ Some row
    → KeepsOthers (λ x y. is_eq (nat_cmp x y)) (is_number name) old new
    → (other : ℕ) → get (preference_rows new) other ≡ cond (eq_by_cmp nat_cmp other name) (Some (preferences_of row)) (get (preference_rows old) other)
changed old new name row here keeps other =
    ⊎_elim
    (λ tie. get_rows new other ∙ ap seen (subst (λ n. lookup (is_number n) new ≡ Some row) (sym (same_key other name tie)) here) ∙ sym (cond-true _ (Some (preferences_of row)) (get (preference_rows old) other) tie))
    (λ differ. get_rows new other ∙ ap seen (others_stay old new name keeps other differ) ∙ sym (get_rows old other) ∙ sym (cond-false _ (Some (preferences_of row)) (get (preference_rows old) other) differ))
    (cases_Bool (eq_by_cmp nat_cmp other name))

pub set_row : (old new : List (ℕ × Preference)) (name : ℕ) (row : Preference) → lookup (is_number name) new ≡ Some row
    → KeepsOthers (λ x y. is_eq (nat_cmp x y)) (is_number name) old new → preference_rows new ≡ insert (preference_rows old) name (preferences_of row)
set_row old new name row here keeps =
    same_map nat_cmp_total nat_cmp-IsAntisymmetric _ _
    (λ q. changed old new name row here keeps q ∙ sym (get-insert nat_cmp_total (preference_rows old) name (preferences_of row) q))
