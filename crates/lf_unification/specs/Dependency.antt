-- The answer of a solved store: its metavariables in an order of dependency; the unbound ones become the variables of a context.
use Rattle.std.specs.Prelude.{◌≡◌, ℕ, zero, suc, List, [], ◌∷◌, Option, Some, None, ◌⊎◌}
use Rattle.lf.specs.Syntax.{Skeleton, Term, LfType, rename, rename_type, skeleton}
use Rattle.lf.specs.Typing.{Signature}
use Rattle.lf_unification.specs.Filling.{fill, fill_type, moved}
use Rattle.lf_unification.specs.OpenTyping.{MetavariablesIn, MetavariablesInType, OpenHasType, OpenIsType, set_at}
use Rattle.lf_unification.specs.Patterns.{eta_variable}

-- A metavariable, with its type, and with its value where it is bound. In a list each stands before those that it depends on.
pub record ListedMetavariable : Type 0 where
  pub of : ℕ
  pub of_type : LfType
  pub value : Option Term

-- the metavariable is one of the list
abbrev pub IsListed : List ListedMetavariable → ℕ → Type 0
IsListed [] m = ⊥
IsListed (it ∷ is) m = (m ≡ it.of) ⊎ IsListed is m

-- the value mentions only what is listed, has the type and is closed
abbrev pub ValueIsOrdered : (Σ : Signature) (Ψ : ℕ → Option LfType) (U : (ℕ → Option Term) → Type 0) → List ListedMetavariable → LfType → Option Term → Type 0
ValueIsOrdered Σ Ψ U is A None = Unit {0}
ValueIsOrdered Σ Ψ U is A (Some N) = MetavariablesIn (IsListed is) N × OpenHasType Σ [] Ψ U [] N A × ((ρ : ℕ → ℕ) → rename ρ N ≡ N)

-- An order of dependency: each metavariable is listed once, with its declared type; types and values mention only what stands behind, are
-- typed up to U and closed.
abbrev pub IsDependencyOrder : (Σ : Signature) (Ψ : ℕ → Option LfType) (U : (ℕ → Option Term) → Type 0) → List ListedMetavariable → Type 0
IsDependencyOrder Σ Ψ U [] = Unit {0}
IsDependencyOrder Σ Ψ U (it ∷ is) = IsDependencyOrder Σ Ψ U is × (Ψ it.of ≡ Some it.of_type) × (IsListed is it.of → ⊥) × MetavariablesInType (IsListed is) it.of_type × OpenIsType Σ [] Ψ U [] it.of_type × ((ρ : ℕ → ℕ) → rename_type ρ it.of_type ≡ it.of_type) × ValueIsOrdered Σ Ψ U is it.of_type it.value

-- what one metavariable adds to the values: a free one is the newest variable, and the earlier values are moved; a bound one has its value, filled
abbrev pub add_value : (ℕ → Skeleton) → ℕ → LfType → Option Term → (ℕ → Option Term) → ℕ → Option Term
add_value μ n A None β = set_at n (Some (eta_variable (skeleton A) zero)) (moved suc β)
add_value μ n A (Some N) β = set_at n (Some (fill μ β N)) β

-- the values of all, read off the order
abbrev pub values : (ℕ → Skeleton) → List ListedMetavariable → ℕ → Option Term
values μ [] = λ m. None
values μ (it ∷ is) = add_value μ it.of it.of_type it.value (values μ is)

-- only a free one adds to the context
abbrev pub add_free : Option Term → LfType → List LfType → List LfType
add_free None A F = A ∷ F
add_free (Some N) A F = F

-- the context of the free metavariables: their types, filled
abbrev pub free_context : (ℕ → Skeleton) → List ListedMetavariable → List LfType
free_context μ [] = []
free_context μ (it ∷ is) = add_free it.value (fill_type μ (values μ is) it.of_type) (free_context μ is)
