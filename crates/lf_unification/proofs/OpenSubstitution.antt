-- Hereditary substitution keeps typing up to U, where declarations are typed. The outer context is empty.
use Rattle.std.proofs.Common.{◌≡◌, ℕ, List, [], ◌∷◌, Option, Some}
use Rattle.lf.specs.Syntax.{LfType, Skeleton, Spine, Term, pi}
use Rattle.lf.specs.Typing.{IsSignature, Signature, instantiate_type}
use Rattle.lf_unification.specs.OpenTyping.{DeclarationsAreTyped, OpenHasType, OpenIsType, OpenSpineType, TypesAgree, weaken_past}
use Rattle.lf_unification.specs.PartialInstance.{PartialInstance}
use Rattle.lf_unification.proofs.Indices.{metavariables_skeletons, skeletons_U}
use Rattle.lf_unification.proofs.OpenRenamingBack.{AllSkeletonsUpTo, SkeletonsUpTo}
use Rattle.lf_unification.proofs.SubstitutionUpTo.{ContextBySkeletons as Context, Ok as HasSkeletons, Reduces, instance_typed as typed_instance, push as pushed, reduction_typed as typed_reduction, spine_convert as spine_converted}

module _ (Σ : Signature) (ok : IsSignature Σ) (Ψ : ℕ → Option LfType) (U : (ℕ → Option Term) → Type 0) (declarations_typed : DeclarationsAreTyped Σ [] Ψ U) (half : (β : ℕ → Option Term) → U β → (F : List LfType) × PartialInstance Σ [] Ψ (λ m. ⊥) F β) where
  abbrev SU : (β : ℕ → Option Term) → U β → SkeletonsUpTo Σ ok [] Ψ U β
  SU = skeletons_U Σ ok [] Ψ U declarations_typed half [] tt

  abbrev MS : (D : List LfType) (m : ℕ) (B : LfType) → Ψ m ≡ Some B → AllSkeletonsUpTo Σ ok [] Ψ U SU D (weaken_past D B)
  MS D m B e = metavariables_skeletons Σ ok [] Ψ U declarations_typed half [] tt D m B e

  abbrev pub Ok : List LfType → LfType → Type 0
  Ok D A = HasSkeletons Σ ok Ψ U SU MS D A

  abbrev pub ContextBySkeletons : List LfType → Type 0
  ContextBySkeletons D = Context Σ ok Ψ U SU MS D

  pub spine_convert : (D : List LfType) → ContextBySkeletons D → (S : Spine) (Y X C' C : LfType) → Ok D Y → Ok D X → TypesAgree Σ [] Ψ U D Y X → TypesAgree Σ [] Ψ U D C' C → OpenSpineType Σ [] Ψ U D S X C → OpenSpineType Σ [] Ψ U D S Y C'
  spine_convert = spine_converted Σ ok Ψ U SU MS

  pub push : (D : List LfType) (B : LfType) → ContextBySkeletons D → Ok D B → ContextBySkeletons (B ∷ D)
  push = pushed Σ ok Ψ U SU MS

  -- a term applied to a spine of its type has the type that is left
  pub reduction_typed : (a : Skeleton) → Reduces Σ ok Ψ U SU MS a
  reduction_typed = typed_reduction Σ ok Ψ U SU MS

  -- the codomain with an argument put in is a type
  pub instance_typed : (D : List LfType) (A : LfType) (M : Term) (B : LfType) → ContextBySkeletons D → Ok D (pi A B) → OpenHasType Σ [] Ψ U D M A → OpenIsType Σ [] Ψ U (A ∷ D) B → OpenIsType Σ [] Ψ U D (instantiate_type A M B)
  instance_typed = typed_instance Σ ok Ψ U SU MS
