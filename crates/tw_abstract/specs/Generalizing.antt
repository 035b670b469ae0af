-- Open terms with each metavariable replaced by a variable. `index` says which one a metavariable is outside all binders, and k counts the binders
-- that were passed. There is no result where a metavariable without an index occurs.
use Rattle.std.specs.Prelude.{ℕ, suc, ◌+◌, Option, Some, None}
use Rattle.std.specs.Option.{option_map}
use Rattle.lf.specs.Syntax.{Head, LfType, Spine, Term, app, atom, constant, lambda, metavariable, nil, pi, root, variable}

-- a result of both, where both are there
abbrev pub both : {A B C : Type 0} → (A → B → C) → Option A → Option B → Option C
both f (Some x) (Some y) = Some (f x y)
both f (Some x) None = None
both f None y = None

-- a head: constants and the variables of local binders stay
abbrev pub generalized_head : (ℕ → Option ℕ) → ℕ → Head → Option Head
generalized_head index k (constant c) = Some (constant c)
generalized_head index k (variable i) = Some (variable i)
generalized_head index k (metavariable m) = option_map (λ i. variable (k + i)) (index m)

abbrev mutual
  pub generalized : (ℕ → Option ℕ) → ℕ → Term → Option Term
  generalized index k (lambda M) = option_map (λ N. lambda N) (generalized index (suc k) M)
  generalized index k (root h S) = both (λ g T. root g T) (generalized_head index k h) (generalized_spine index k S)

  -- the same, argument by argument
  pub generalized_spine : (ℕ → Option ℕ) → ℕ → Spine → Option Spine
  generalized_spine index k nil = Some nil
  generalized_spine index k (app M S) = both (λ N T. app N T) (generalized index k M) (generalized_spine index k S)

-- the same in a type
abbrev pub generalized_type : (ℕ → Option ℕ) → ℕ → LfType → Option LfType
generalized_type index k (pi A B) = both (λ C D. pi C D) (generalized_type index k A) (generalized_type index (suc k) B)
generalized_type index k (atom a S) = option_map (λ T. atom a T) (generalized_spine index k S)
