-- A variable in place of another, under binders.
use Rattle.std.proofs.Common.{◌≡◌, ℕ, zero, suc, ◌+◌, ◌-◌, ◌<◌, ap, ◌∙◌, arith}
use Rattle.lf.specs.AtOnce.{lift_renaming_by}
use Rattle.lf.specs.Syntax.{rename_head, variable}
use Rattle.lf.specs.Variables.{at_variable}
use Rattle.lf.proofs.AtOnce.{lift_renaming_by_bound}
use Rattle.tw_terms.proofs.Args.{types}
use Rattle.tw_terms.proofs.Weakened.{rename_spine-args_of}

lifted : (n i k : ℕ) (ρ : ℕ → ℕ) → i ≡ n + k → lift_renaming_by n ρ i ≡ ρ k + n
lifted zero i k ρ e = ap ρ (let q : i ≡ k = omega (arith, e) in q) ∙ omega arith
lifted (suc n) zero k ρ e = absurd (omega (arith, e))
lifted (suc n) (suc i) k ρ e = let h = lifted n i k ρ (omega (arith, e)) in ap suc h ∙ omega arith

pub put_bound : (u y i : ℕ) → i < u → rename_head (lift_renaming_by u (at_variable y)) (variable i) ≡ variable i
put_bound u y i h = ap variable (lift_renaming_by_bound u i (at_variable y) h)

pub put_past : (u y i : ℕ) → u < i → rename_head (lift_renaming_by u (at_variable y)) (variable i) ≡ variable (i - 1)
put_past u y i h = ap variable (lifted u i (suc (i - suc u)) (at_variable y) (omega (arith, h)) ∙ omega (arith, h))

pub put_here : (u y i : ℕ) → i ≡ u → rename_head (lift_renaming_by u (at_variable y)) (variable i) ≡ variable (y + u)
put_here u y i h = ap variable (lifted u i zero (at_variable y) (omega (arith, h)))

pub ruleset put_views = (types, rename_spine-args_of, put_bound, put_past, put_here)
