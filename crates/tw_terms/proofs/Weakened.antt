-- Renaming by a shift, as the code does it.
use Rattle.std.proofs.Common.{◌≡◌, ℕ, suc, ◌+◌, ◌<◌, ◌≤◌, List, [], ◌∷◌, map, refl, sym, ap}
use Rattle.lf.specs.Syntax.{Term as LfTerm, variable, lambda, app, LfType, pi, rename, rename_head, rename_spine, rename_type}
use Rattle.lf.specs.AtOnce.{shift_by, lift_renaming_by}
use Rattle.lf.proofs.AtOnce.{lift_renaming_by_bound, shift_under}
use Rattle.tw_terms.specs.View.{term_of, spine_from, args_of}
use Rattle.tw_terms.specs.declared.canonical.Term.{Term}
use Rattle.tw_terms.proofs.Args.{types}

pub rename_spine-args_of : (ρ : ℕ → ℕ) (ts : List Term) → rename_spine ρ (args_of ts) ≡ spine_from (map (λ t. rename ρ (term_of t)) ts)
rename_spine-args_of ρ [] = refl
rename_spine-args_of ρ (t ∷ ts) = ap (app (rename ρ (term_of t))) (rename_spine-args_of ρ ts)

-- a variable that stays, and one that is moved
pub bound_variable : (under by i : ℕ) → i < under → rename_head (lift_renaming_by under (shift_by by)) (variable i) ≡ variable i
bound_variable under by i h = ap variable (lift_renaming_by_bound under i (shift_by by) h)

pub free_variable : (under by i : ℕ) → under ≤ i → rename_head (lift_renaming_by under (shift_by by)) (variable i) ≡ variable (i + by)
free_variable under by i h = ap variable (shift_under under by i h)

pub ruleset weakened = (types, rename_spine-args_of, bound_variable, free_variable)

-- under one more binder
pub under_lambda : (m n : ℕ) (ρ : ℕ → ℕ) (M : LfTerm) → m ≡ suc n → rename (lift_renaming_by n ρ) (lambda M) ≡ lambda (rename (lift_renaming_by m ρ) M)
under_lambda m n ρ M e = ap (λ k. lambda (rename (lift_renaming_by k ρ) M)) (sym e)

pub under_pi : (m n : ℕ) (ρ : ℕ → ℕ) (A B : LfType) → m ≡ suc n → rename_type (lift_renaming_by n ρ) (pi A B) ≡ pi (rename_type (lift_renaming_by n ρ) A) (rename_type (lift_renaming_by m ρ) B)
under_pi m n ρ A B e = ap (λ k. pi (rename_type (lift_renaming_by n ρ) A) (rename_type (lift_renaming_by k ρ) B)) (sym e)
