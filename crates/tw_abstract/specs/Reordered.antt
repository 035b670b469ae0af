-- Generalization in another order of the metavariables.
use Rattle.std.specs.Prelude.{◌≡◌, ℕ, ◌<◌, Option, Some}
use Rattle.lf.specs.AtOnce.{lift_renaming_by}
use Rattle.lf.specs.Syntax.{LfType, Term, atom, pi, rename, rename_type}
use Rattle.lf_unification.specs.Patterns.{FreeVariablesIn, FreeVariablesInSpine, LiftedSet}
use Rattle.tw_abstract.specs.Generalizing.{generalized, generalized_type}

-- each free variable of the type is in P
abbrev pub FreeVariablesInType : (ℕ → Type 0) → LfType → Type 0
FreeVariablesInType P (pi A B) = FreeVariablesInType P A × FreeVariablesInType (LiftedSet P) B
FreeVariablesInType P (atom a S) = FreeVariablesInSpine P S

-- ρ takes the variable of each metavariable to the one that it has in the other order
abbrev pub TakesIndices : (ℕ → Option ℕ) → (ℕ → Option ℕ) → (ℕ → ℕ) → Type 0
TakesIndices index index' ρ = (m i : ℕ) → index m ≡ Some i → index' m ≡ Some (ρ i)

-- What is generalized in another order, or in a longer one, is renamed. Terms and types have the variables of k local binders only.
abbrev pub AnotherOrderRenames : Type 0
AnotherOrderRenames = (index index' : ℕ → Option ℕ) (ρ : ℕ → ℕ) → TakesIndices index index' ρ → (k : ℕ) →
    ((M N : Term) → FreeVariablesIn (λ i. i < k) M → generalized index k M ≡ Some N → generalized index' k M ≡ Some (rename (lift_renaming_by k ρ) N)) ×
    ((A B : LfType) → FreeVariablesInType (λ i. i < k) A → generalized_type index k A ≡ Some B → generalized_type index' k A ≡ Some (rename_type (lift_renaming_by k ρ) B))
