-- Occurrences of a metavariable on a pattern, in no argument of a metavariable, properly inside a term.
use Rattle.std.specs.Prelude.{◌≡◌, ℕ, List, length, Option}
use Rattle.lf.specs.Syntax.{LfType, Term}
use Rattle.lf_unification.specs.Inversion.{OccursRigid}
use Rattle.tw_prune.specs.Standing.{HasSkeleton}

-- In each local context of `inner` variables in which the term has a skeleton, the metavariable occurs so.
abbrev pub OccursInside : ℕ → ℕ → Term → Type 0
OccursInside m inner N = (Ψ : ℕ → Option LfType) (D : List LfType) (xs : List ℕ) → length D ≡ inner → HasSkeleton Ψ D N → OccursRigid Ψ D m xs N

-- In no local context of `inner` variables does it occur so.
abbrev pub NeverOccursInside : ℕ → ℕ → Term → Type 0
NeverOccursInside m inner N = (Ψ : ℕ → Option LfType) (D : List LfType) (xs : List ℕ) → length D ≡ inner → OccursRigid Ψ D m xs N → ⊥
