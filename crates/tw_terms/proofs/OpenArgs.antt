-- The rulesets for functions over open syntax, and what holds of each argument of an open spine.
use Rattle.std.proofs.Common.{◌≡◌, ℕ, arith, ◌<◌, ◌≤◌, List, [], ◌∷◌, length, get_or, refl}
use Rattle.std.proofs.lemmas.Grind.{common_steps}
use Rattle.std.proofs.lemmas.List.Recursion.{max_bounds}
use Rattle.lf.specs.Depth.{depth, spine_depth}
use Rattle.tw_terms.specs.OpenView.{open_term_of, open_args_of}
use Rattle.tw_terms.proofs.Args.{count_of_args}
use Rattle.tw_terms.proofs.OpenViews.{open_term_views, open_type_views}
use Rattle.tw_terms.specs.declared.open_terms.Open.{Open}

-- no argument is deeper than the spine
pub open_depth-get_or : (ts : List Open) (i : ℕ) (d : Open) → i < length ts → depth (open_term_of (get_or ts i d)) ≤ spine_depth (open_args_of ts)
open_depth-get_or = max_bounds (λ ts. spine_depth (open_args_of ts)) (λ t. depth (open_term_of t)) refl (λ _ _. refl)

pub count_of_args-open_args_of : (ts : List Open) → count_of_args (open_args_of ts) ≡ length ts
count_of_args-open_args_of [] = refl
count_of_args-open_args_of (t ∷ ts) = omega (arith, count_of_args-open_args_of ts)

-- for functions over open terms and spines
pub ruleset open_spines = (common_steps, open_term_views, open_depth-get_or)

-- for functions over open types
pub ruleset open_types = (open_spines, open_type_views)
