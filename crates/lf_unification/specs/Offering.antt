-- A head applied to new metavariables, one for each quantifier of its type; and the equations between two spines.
use Rattle.std.specs.Prelude.{ℕ, zero, suc, List, [], ◌∷◌, Option, Some}
use Rattle.lf.specs.Eta.{eta_expand, add_last}
use Rattle.lf.specs.Syntax.{Kind, Spine, Term, LfType, app, atom, kind_pi, lambda, metavariable, nil, pi, rename_spine, skeleton, star}
use Rattle.lf.specs.Typing.{instantiate_kind, instantiate_type}
use Rattle.lf_unification.specs.OpenTyping.{MetavariablesInType, set_at}
use Rattle.lf_unification.specs.Patterns.{eta_variable}
use Rattle.lf_unification.specs.Unifiers.{Equation}

-- a type closed over a local context
abbrev pub pi_over : List LfType → LfType → LfType
pi_over [] P = P
pi_over (A ∷ D) P = pi_over D (pi A P)

-- a term closed over a local context
abbrev pub lambda_over : List LfType → Term → Term
lambda_over [] M = M
lambda_over (A ∷ D) M = lambda_over D (lambda M)

-- the local variables as a spine
abbrev pub local_arguments : List LfType → Spine
local_arguments [] = nil
local_arguments (A ∷ D) = add_last (rename_spine suc (local_arguments D)) (eta_variable (skeleton A) zero)

-- metavariable n, which has the type of B closed over D, at the local variables
abbrev pub raised : List LfType → LfType → ℕ → Term
raised D B n = eta_expand (skeleton B) (metavariable n) (local_arguments D)

-- A head of type A is applied to new metavariables, numbered from n, one for each quantifier. Ψ' and n' are what is declared then,
-- S the spine, and `a . T` the type that is left.
pub data AppliesToNew (D : List LfType) : (ℕ → Option LfType) → ℕ → LfType → (ℕ → Option LfType) → ℕ → Spine → ℕ → Spine → Type 0 where
  applied_to_all : {Ψ : ℕ → Option LfType} {n a : ℕ} {T : Spine} → AppliesToNew D Ψ n (atom a T) Ψ n nil a T
  applied_to_next : {Ψ Ψ' : ℕ → Option LfType} {n n' a : ℕ} {B C : LfType} {S T : Spine} →
      AppliesToNew D (set_at n (Some (pi_over D B)) Ψ) (suc n) (instantiate_type B (raised D B n) C) Ψ' n' S a T →
      AppliesToNew D Ψ n (pi B C) Ψ' n' (app (raised D B n) S) a T

-- each type of the local context has its metavariables in V
abbrev pub MetavariablesInLocals : (ℕ → Type 0) → List LfType → Type 0
MetavariablesInLocals V [] = Unit {0}
MetavariablesInLocals V (A ∷ D) = MetavariablesInLocals V D × MetavariablesInType V A

-- the equations of two spines that a kind takes, the first one's side on the left
abbrev pub spine_equations : List LfType → Kind → Spine → Spine → List Equation
spine_equations D (kind_pi A K) (app M S) (app N T) = record { local = D; left = M; right = N; of_type = A } ∷ spine_equations D (instantiate_kind A M K) S T
spine_equations D (kind_pi A K) (app M S) nil = []
spine_equations D (kind_pi A K) nil T = []
spine_equations D star S T = []

-- the same where a type takes the spines
abbrev pub argument_equations : List LfType → LfType → Spine → Spine → List Equation
argument_equations D (pi A B) (app M S) (app N T) = record { local = D; left = M; right = N; of_type = A } ∷ argument_equations D (instantiate_type A M B) S T
argument_equations D (pi A B) (app M S) nil = []
argument_equations D (pi A B) nil T = []
argument_equations D (atom a U) S T = []
