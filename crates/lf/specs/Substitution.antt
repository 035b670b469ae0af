-- Hereditary substitution, of any number of variables at once.
use Rattle.std.specs.Prelude.{ℕ, zero, suc}
use Rattle.lf.specs.Syntax.{constant, variable, metavariable, Term, Spine, lambda, root, nil, app, LfType, Kind, pi, atom, kind_pi, star, Skeleton, arrow, rename}

-- What stands for a variable: another variable, or a term of a skeleton.
pub data Image : Type 0 where
  keep : ℕ → Image
  put : Skeleton → Term → Image

-- the variable, or the term, renamed
abbrev pub rename_image : (ℕ → ℕ) → Image → Image
rename_image ρ (keep i) = keep (ρ i)
rename_image ρ (put a N) = put a (rename ρ N)

-- σ under a binder: the bound variable stays, and the images are moved over it
abbrev pub lift : (ℕ → Image) → ℕ → Image
lift σ zero = keep zero
lift σ (suc i) = rename_image suc (σ i)

-- N for the newest variable; each other one comes one nearer
abbrev pub single : Skeleton → Term → ℕ → Image
single a N zero = put a N
single a N (suc i) = keep i

-- `r` applies a term of a skeleton to a spine
abbrev pub apply_image : (Skeleton → Term → Spine → Term) → Image → Spine → Term
apply_image r (keep i) S = root (variable i) S
apply_image r (put a N) S = r a N S

abbrev mutual
  pub substitute : (Skeleton → Term → Spine → Term) → (ℕ → Image) → Term → Term
  substitute r σ (lambda M) = lambda (substitute r (lift σ) M)
  substitute r σ (root (constant c) S) = root (constant c) (substitute_spine r σ S)
  substitute r σ (root (metavariable m) S) = root (metavariable m) (substitute_spine r σ S)
  substitute r σ (root (variable i) S) = apply_image r (σ i) (substitute_spine r σ S)

  pub substitute_spine : (Skeleton → Term → Spine → Term) → (ℕ → Image) → Spine → Spine
  substitute_spine r σ nil = nil
  substitute_spine r σ (app M S) = app (substitute r σ M) (substitute_spine r σ S)

-- the same in types and kinds
abbrev pub substitute_type : (Skeleton → Term → Spine → Term) → (ℕ → Image) → LfType → LfType
substitute_type r σ (pi A B) = pi (substitute_type r σ A) (substitute_type r (lift σ) B)
substitute_type r σ (atom a S) = atom a (substitute_spine r σ S)

abbrev pub substitute_kind : (Skeleton → Term → Spine → Term) → (ℕ → Image) → Kind → Kind
substitute_kind r σ (kind_pi A K) = kind_pi (substitute_type r σ A) (substitute_kind r (lift σ) K)
substitute_kind r σ star = star

-- A term of a skeleton applied to a spine: each argument removes one lambda.
abbrev pub reduce : Skeleton → Term → Spine → Term
reduce (arrow a b) (lambda M) (app N S) = reduce b (substitute (λ c. reduce a) (single a N) M) S
reduce _ M _ = M

-- τ after σ
abbrev pub substitute_image : (ℕ → Image) → Image → Image
substitute_image τ (keep j) = τ j
substitute_image τ (put a N) = put a (substitute reduce τ N)

-- the substitution that does first σ, then τ
abbrev pub after : (ℕ → Image) → (ℕ → Image) → ℕ → Image
after τ σ i = substitute_image τ (σ i)
