-- Renamings of open syntax.
use Rattle.std.proofs.Common.{◌≡◌, ℕ, ◌+◌, ◌<◌, ◌≤◌, sym, ap, add-one}
use Rattle.lf.specs.AtOnce.{lift_renaming_by, shift_by}
use Rattle.lf.specs.Syntax.{Term, LfType, rename, rename_head, rename_type, lambda, pi, variable}
use Rattle.lf.proofs.AtOnce.{lift_renaming_by_bound, shift_under}
use Rattle.tw_terms.proofs.OpenArgs.{open_types}
use Rattle.tw_putting.proofs.Arguments.{arguments_renamed}

-- a variable below the bound stays, and another one is raised
pub head_stays : (n b i : ℕ) → i < n → rename_head (lift_renaming_by n (shift_by b)) (variable i) ≡ variable i
head_stays n b i h = ap variable (lift_renaming_by_bound n i (shift_by b) h)

pub head_moves : (n b i : ℕ) → n ≤ i → rename_head (lift_renaming_by n (shift_by b)) (variable i) ≡ variable (i + b)
head_moves n b i h = ap variable (shift_under n b i h)

-- under a binder
pub body_moves : (n b : ℕ) (M : Term) → rename (lift_renaming_by n (shift_by b)) (lambda M) ≡ lambda (rename (lift_renaming_by (n + 1) (shift_by b)) M)
body_moves n b M = ap (λ k. lambda (rename (lift_renaming_by k (shift_by b)) M)) (sym (add-one n))

pub range_moves : (n b : ℕ) (A B : LfType) → rename_type (lift_renaming_by n (shift_by b)) (pi A B) ≡ pi (rename_type (lift_renaming_by n (shift_by b)) A) (rename_type (lift_renaming_by (n + 1) (shift_by b)) B)
range_moves n b A B = ap (λ k. pi (rename_type (lift_renaming_by n (shift_by b)) A) (rename_type (lift_renaming_by k (shift_by b)) B)) (sym (add-one n))

pub ruleset shifts = (open_types, head_stays, head_moves, body_moves, range_moves, arguments_renamed)
