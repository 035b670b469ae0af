-- A metavariable that is declared and bound.
use Rattle.std.proofs.Common.{◌≡◌, ℕ, zero, suc, List, [], ◌∷◌, ◌++◌, length, Some, None, refl, sym, ap, ◌∙◌, subst}
use Rattle.std.specs.Prelude.{slice_set}
use Rattle.lf.specs.Syntax.{LfType, Term}
use Rattle.tw_metas.specs.State.{Story, changed, with_declared, with_value}

length_more : {A : Type 0} (xs : List A) (x : A) → length (xs ++ x ∷ []) ≡ suc (length xs)
length_more [] x = refl
length_more (y ∷ xs) x = ap suc (length_more xs x)

set_length : {A : Type 0} (xs : List A) (i : ℕ) (x : A) → length (slice_set xs i x) ≡ length xs
set_length [] i x = refl
set_length (y ∷ xs) zero x = refl
set_length (y ∷ xs) (suc i) x = ap suc (set_length xs i x)

-- both changes keep a place for each value
pub places_kept : (s t u : Story) (m : ℕ) (G : List LfType) (A : LfType) (N : Term) → length s.now.values ≡ length s.now.declared → t ≡ changed s (with_declared s.now G A) → u ≡ changed t (with_value t.now m N) → length u.now.values ≡ length u.now.declared
places_kept s t u m G A N e c d =
    subst (λ (r : Story). length r.now.values ≡ length r.now.declared) (sym d)
    (set_length t.now.values m (Some N) ∙ subst (λ (r : Story). length r.now.values ≡ length r.now.declared) (sym c)
    (length_more s.now.values None ∙ ap suc e ∙ sym (length_more s.now.declared (record { context = G; of_type = A }))))
