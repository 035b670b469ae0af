-- The rulesets for functions over the syntax, and what holds of each argument of a spine.
use Rattle.std.proofs.Common.{◌≡◌, ℕ, ◌+◌, arith, ◌<◌, ◌≤◌, List, [], ◌∷◌, length, get_or, refl}
use Rattle.std.proofs.lemmas.Grind.{common_steps}
use Rattle.std.proofs.lemmas.List.Recursion.{max_bounds}
use Rattle.lf.specs.Syntax.{Spine, nil, app}
use Rattle.lf.specs.Depth.{depth, spine_depth}
use Rattle.tw_terms.specs.View.{term_of, args_of}
use Rattle.tw_terms.proofs.Views.{term_views, type_views, skeleton_views}
use Rattle.tw_terms.specs.declared.canonical.Term.{Term}

-- no argument is deeper than the spine
pub depth-get_or : (ts : List Term) (i : ℕ) (d : Term) → i < length ts → depth (term_of (get_or ts i d)) ≤ spine_depth (args_of ts)
depth-get_or = max_bounds (λ ts. spine_depth (args_of ts)) (λ t. depth (term_of t)) refl (λ _ _. refl)

-- how many arguments a spine has
abbrev pub count_of_args : Spine → ℕ
count_of_args nil = 0
count_of_args (app m s) = count_of_args s + 1

pub count_of_args-args_of : (ts : List Term) → count_of_args (args_of ts) ≡ length ts
count_of_args-args_of [] = refl
count_of_args-args_of (t ∷ ts) = omega (arith, count_of_args-args_of ts)

-- for functions over terms and spines
pub ruleset spines = (common_steps, term_views, depth-get_or)

-- for functions over types and kinds
pub ruleset types = (spines, type_views)

-- for functions over skeletons
pub ruleset skeletons = (spines, skeleton_views)

-- for functions over types and their skeletons
pub ruleset types_and_skeletons = (spines, type_views, skeleton_views)
