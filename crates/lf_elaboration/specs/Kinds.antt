-- Kinds with metavariables: up to a set of fillings, and filled.
use Rattle.std.specs.Prelude.{ℕ, suc, List, [], ◌∷◌, Option}
use Rattle.lf.specs.Syntax.{Kind, LfType, Skeleton, Term, kind_pi, star}
use Rattle.lf.specs.Typing.{Signature}
use Rattle.lf_unification.specs.Filling.{fill_type, moved}
use Rattle.lf_unification.specs.OpenTyping.{MetavariablesInType, OpenIsType}

-- the rules of LF for kinds, up to U
module _ (Σ : Signature) (Ψ : ℕ → Option LfType) (U : (ℕ → Option Term) → Type 0) where
  abbrev pub OpenIsKind : List LfType → Kind → Type 0
  OpenIsKind D (kind_pi A K) = OpenIsType Σ [] Ψ U D A × OpenIsKind (A ∷ D) K
  OpenIsKind D star = Unit {0}

-- each metavariable of the kind is in V
abbrev pub MetavariablesInKind : (ℕ → Type 0) → Kind → Type 0
MetavariablesInKind V (kind_pi A K) = MetavariablesInType V A × MetavariablesInKind V K
MetavariablesInKind V star = Unit {0}

-- a filling put in
abbrev pub fill_kind : (ℕ → Skeleton) → (ℕ → Option Term) → Kind → Kind
fill_kind μ β (kind_pi A K) = kind_pi (fill_type μ β A) (fill_kind μ (moved suc β) K)
fill_kind μ β star = star

-- a kind closed over a context
abbrev pub kind_over : List LfType → Kind → Kind
kind_over [] K = K
kind_over (A ∷ D) K = kind_over D (kind_pi A K)
