-- The rulesets for the walks.
use Rattle.std.proofs.Common.{◌≡◌, ℕ, ◌+◌, ◌-◌, ◌<◌, ◌≤◌, ap}
use Rattle.lf.specs.AtOnce.{lift_renaming_by}
use Rattle.lf.specs.Syntax.{rename_head, variable}
use Rattle.lf.proofs.AtOnce.{lift_renaming_by_bound, lift_renaming_by_free}
use Rattle.tw_abstract.proofs.Noting.{noted-append}
use Rattle.tw_terms.proofs.Args.{types}
use Rattle.tw_terms.proofs.Weakened.{rename_spine-args_of}

-- a variable that stays, and one that is moved
pub bound_variable : (under i : ℕ) (ρ : ℕ → ℕ) → i < under → rename_head (lift_renaming_by under ρ) (variable i) ≡ variable i
bound_variable under i ρ h = ap variable (lift_renaming_by_bound under i ρ h)

pub free_variable : (under i : ℕ) (ρ : ℕ → ℕ) → under ≤ i → rename_head (lift_renaming_by under ρ) (variable i) ≡ variable (ρ (i - under) + under)
free_variable under i ρ h = ap variable (lift_renaming_by_free under i ρ h)

pub ruleset walks = (types, rename_spine-args_of, bound_variable, free_variable, noted-append)
