-- One more variable closed over.
use Rattle.std.proofs.Common.{◌≡◌, ℕ, zero, suc, ◌+◌, List, [], ◌∷◌, length, drop, Some, sym, ap, ◌∙◌, arith}
use Rattle.std.specs.List.{slice_get}
use Rattle.std.proofs.lemmas.List.{drop_all}
use Rattle.lf.specs.Syntax.{LfType, pi}
use Rattle.lf_unification.specs.Offering.{pi_over}
use Rattle.tw_terms.proofs.Args.{types}

-- what is left, and its first
drop_first : (D : List LfType) (i : ℕ) (A : LfType) → Some A ≡ slice_get D i → drop i D ≡ A ∷ drop (i + 1) D
drop_first [] i A e = absurd cc
drop_first (B ∷ D) zero A e = let p : A ≡ B = cc in ap (λ X. X ∷ D) (sym p)
drop_first (B ∷ D) (suc i) A e = let n : suc (i + 1) ≡ suc i + 1 = omega arith in drop_first D i A e ∙ ap (λ k. A ∷ drop k (B ∷ D)) n

pub type_step : (D : List LfType) (i : ℕ) (A P : LfType) → Some A ≡ slice_get D i → pi_over (drop (i + 1) D) (pi A P) ≡ pi_over (drop i D) P
type_step D i A P g = sym (ap (λ E. pi_over E P) (drop_first D i A g))

-- and all of them
pub all_dropped : (D : List LfType) → drop (length D) D ≡ []
all_dropped D = drop_all (length D) D (omega arith)

pub ruleset closings = (types, type_step, all_dropped)
