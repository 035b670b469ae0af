-- The other half of what solving needs of a store that it is handed: skeletons type what its equations stand in.
use Rattle.std.specs.Prelude.{ℕ, List, [], ◌∷◌, Option}
use Rattle.lf.specs.SkeletonTyping.{HeadSkeletons, TypeBySkeletons}
use Rattle.lf.specs.Skeletons.{family_skeletons, signature_skeletons, type_skeleton}
use Rattle.lf.specs.Syntax.{LfType}
use Rattle.lf.specs.Typing.{Signature}
use Rattle.lf_unification.specs.Patterns.{local_skeletons}
use Rattle.lf_unification.specs.Unifiers.{Equation, Store}

-- the skeletons of constants, and of the metavariables that are declared; the others have none
abbrev pub declared_in : Signature → (ℕ → Option LfType) → HeadSkeletons
declared_in Σ Ψ = signature_skeletons Σ (λ m. type_skeleton (Ψ m))

-- skeletons type the local context
abbrev pub LocalsHaveSkeletons : Signature → (ℕ → Option LfType) → List LfType → Type 0
LocalsHaveSkeletons Σ Ψ [] = Unit {0}
LocalsHaveSkeletons Σ Ψ (A ∷ D) = LocalsHaveSkeletons Σ Ψ D × TypeBySkeletons (family_skeletons Σ) (declared_in Σ Ψ) (local_skeletons D []) A

-- and the local context and the type of each equation; so these mention declared metavariables alone
abbrev pub TypesHaveSkeletons : Signature → (ℕ → Option LfType) → List Equation → Type 0
TypesHaveSkeletons Σ Ψ [] = Unit {0}
TypesHaveSkeletons Σ Ψ (e ∷ es) = (LocalsHaveSkeletons Σ Ψ e.local × TypeBySkeletons (family_skeletons Σ) (declared_in Σ Ψ) (local_skeletons e.local []) e.of_type) × TypesHaveSkeletons Σ Ψ es

-- those of a store
abbrev pub StoreHasSkeletons : Signature → Store → Type 0
StoreHasSkeletons Σ s = TypesHaveSkeletons Σ s.metavariables s.equations
