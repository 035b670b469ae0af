-- Open terms are terms with metavariables as heads. A filling gives some metavariables a term that stands in the outer context;
-- it is put in hereditarily, moved under the binders that it meets.
use Rattle.std.specs.Prelude.{ℕ, suc, Option, Some, None}
use Rattle.lf.specs.Substitution.{reduce}
use Rattle.lf.specs.Syntax.{Skeleton, Spine, Term, LfType, app, atom, constant, lambda, metavariable, nil, pi, rename, root, variable}

-- a value moved into another context
abbrev pub rename_value : (ℕ → ℕ) → Option Term → Option Term
rename_value ρ None = None
rename_value ρ (Some N) = Some (rename ρ N)

-- the filling moved into another context
abbrev pub moved : (ℕ → ℕ) → (ℕ → Option Term) → ℕ → Option Term
moved ρ β m = rename_value ρ (β m)

-- a metavariable on filled arguments: without a value it stays, else its value is applied to them
abbrev pub fill_metavariable : Skeleton → ℕ → Option Term → Spine → Term
fill_metavariable a m None S = root (metavariable m) S
fill_metavariable a m (Some N) S = reduce a N S

-- A filling put into a term: under a lambda its values are moved over the bound variable. `μ` gives the skeletons of metavariables.
abbrev mutual
  pub fill : (ℕ → Skeleton) → (ℕ → Option Term) → Term → Term
  fill μ β (lambda M) = lambda (fill μ (moved suc β) M)
  fill μ β (root (constant c) S) = root (constant c) (fill_spine μ β S)
  fill μ β (root (variable i) S) = root (variable i) (fill_spine μ β S)
  fill μ β (root (metavariable m) S) = fill_metavariable (μ m) m (β m) (fill_spine μ β S)

  pub fill_spine : (ℕ → Skeleton) → (ℕ → Option Term) → Spine → Spine
  fill_spine μ β nil = nil
  fill_spine μ β (app M S) = app (fill μ β M) (fill_spine μ β S)

-- the same in a type
abbrev pub fill_type : (ℕ → Skeleton) → (ℕ → Option Term) → LfType → LfType
fill_type μ β (pi A B) = pi (fill_type μ β A) (fill_type μ (moved suc β) B)
fill_type μ β (atom a S) = atom a (fill_spine μ β S)
