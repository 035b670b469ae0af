-- The substitution lemma of LF, where metavariables have no skeletons.
use Rattle.std.proofs.Common.{◌≡◌, ℕ, zero, suc, List, [], ◌∷◌, None, Some, refl, sym, ap, ◌∙◌, subst}
use Rattle.lf.specs.Syntax.{constant, variable, metavariable, Term, Spine, lambda, root, nil, app, LfType, Kind, pi, atom, kind_pi, star, Skeleton, base, arrow, skeleton, weaken}
use Rattle.lf.specs.Substitution.{Image, keep, put, rename_image, lift, single, apply_image, substitute, substitute_spine, substitute_type, substitute_kind, reduce}
use Rattle.lf.specs.SkeletonTyping.{TermSkeleton, TypeBySkeletons, KindBySkeletons, ImageSkeleton, SubstitutionBySkeletons}
use Rattle.lf.specs.Typing.{Signature, TypeAt, instantiate_type, instantiate_kind, HasType, SpineType, SpineFitsKind, IsType, IsKind, IsContext, IsSignature, ImageHasType, IsTypedSubstitution}
use Rattle.lf.proofs.Renaming.{OnPut, Puts, Puts-lift, Puts-single, OnPut-all, reduction_beta}
use Rattle.lf.proofs.TypeLaws.{skeleton_renamed, skeleton_substituted, lifted_substitution_weakened_type, substitute_weakened_type}
use Rattle.lf.specs.Skeletons.{constant_skeletons, family_skeletons, context_skeletons}
use Rattle.lf.proofs.ToSkeletons.{variable_has_skeleton, skeleton_has_variable, typed_has_skeleton, type_by_skeletons, kind_by_skeletons}
use Rattle.lf.proofs.Closed.{closed_type_renamed, closed_kind_renamed, closed_type_substituted, closed_kind_substituted}
use Rattle.lf.proofs.Weakening.{weakening_renames, renaming_keeps_typing, renaming_keeps_types, renaming_keeps_kinds, declared_is_type}
use Rattle.lf.proofs.SkeletonTypes.{renaming_keeps_types_by_skeletons, substitution_keeps_types_by_skeletons, single_type_by_skeletons, single_kind_by_skeletons, substitute_single_type, substitute_single_kind}
use Rattle.lf.proofs.SubstitutionLemma as over

module _ (Σ : Signature) (ok : IsSignature Σ) where
  abbrev pub SkeletonType : List LfType → LfType → Type 0
  SkeletonType = over.SkeletonType Σ (λ m. None) ok

  abbrev pub SkeletonContext : List LfType → Type 0
  SkeletonContext = over.SkeletonContext Σ (λ m. None) ok

  abbrev pub ReductionTyped : Skeleton → Type 0
  ReductionTyped = over.ReductionTyped Σ (λ m. None) ok

  abbrev pub TypedSubstitution : List LfType → List LfType → (ℕ → Image) → Type 0
  TypedSubstitution = over.TypedSubstitution Σ (λ m. None) ok

  pub constant_type : (G : List LfType) (c : ℕ) (A : LfType) → Σ.types c ≡ Some A → IsType Σ G A
  constant_type = over.constant_type Σ ok

  pub family_kind : (G : List LfType) (c : ℕ) (K : Kind) → Σ.kinds c ≡ Some K → IsKind Σ G K
  family_kind = over.family_kind Σ ok

  pub skeleton_context_push : (G : List LfType) (B : LfType) → SkeletonContext G → SkeletonType G B → SkeletonContext (B ∷ G)
  skeleton_context_push = over.skeleton_context_push Σ (λ m. None) ok

  pub skeleton_context_of : (G : List LfType) → IsContext Σ G → SkeletonContext G
  skeleton_context_of = over.skeleton_context_of Σ (λ m. None) ok

  pub typed_substitution_by_skeletons : (G D : List LfType) (σ : ℕ → Image) → IsTypedSubstitution Σ G D σ → SubstitutionBySkeletons (constant_skeletons Σ) (context_skeletons G) (context_skeletons D) σ
  typed_substitution_by_skeletons = over.typed_substitution_by_skeletons Σ (λ m. None) ok

  pub lifted_substitution_typed : (G D : List LfType) (σ : ℕ → Image) (B : LfType) → TypedSubstitution G D σ → SkeletonType G B → TypedSubstitution (B ∷ G) (substitute_type reduce σ B ∷ D) (lift σ)
  lifted_substitution_typed = over.lifted_substitution_typed Σ (λ m. None) ok

  pub single_substitution_typed : (G : List LfType) (B : LfType) (N : Term) → SkeletonContext G → SkeletonType G B → HasType Σ G N B → TypedSubstitution (B ∷ G) G (single (skeleton B) N)
  single_substitution_typed = over.single_substitution_typed Σ (λ m. None) ok

  pub reduction_keeps_typing : (a : Skeleton) → ReductionTyped a
  reduction_keeps_typing = over.reduction_keeps_typing Σ (λ m. None) ok

  pub substitution_keeps_typing : (G D : List LfType) (σ : ℕ → Image) (M : Term) (A : LfType) → TypedSubstitution G D σ → SkeletonType G A → HasType Σ G M A → HasType Σ D (substitute reduce σ M) (substitute_type reduce σ A)
  substitution_keeps_typing = over.substitution_keeps_typing Σ (λ m. None) ok

  pub substitution_keeps_spine_typing : (G D : List LfType) (σ : ℕ → Image) (S : Spine) (A C : LfType) → TypedSubstitution G D σ → SkeletonType G A → SpineType Σ G S A C → SpineType Σ D (substitute_spine reduce σ S) (substitute_type reduce σ A) (substitute_type reduce σ C)
  substitution_keeps_spine_typing = over.substitution_keeps_spine_typing Σ (λ m. None) ok

  pub substitution_keeps_kind_spines : (G D : List LfType) (σ : ℕ → Image) (S : Spine) (K : Kind) → TypedSubstitution G D σ → KindBySkeletons (family_skeletons Σ) (constant_skeletons Σ) (context_skeletons G) K → SpineFitsKind Σ G S K → SpineFitsKind Σ D (substitute_spine reduce σ S) (substitute_kind reduce σ K)
  substitution_keeps_kind_spines = over.substitution_keeps_kind_spines Σ (λ m. None) ok

  pub substitution_keeps_types : (G D : List LfType) (σ : ℕ → Image) (A : LfType) → TypedSubstitution G D σ → IsType Σ G A → IsType Σ D (substitute_type reduce σ A)
  substitution_keeps_types = over.substitution_keeps_types Σ (λ m. None) ok

  pub instance_is_typed : (G : List LfType) (A : LfType) (N M : Term) (B : LfType) → IsContext Σ G → IsType Σ G A → IsType Σ (A ∷ G) B → HasType Σ G N A → HasType Σ (A ∷ G) M B → HasType Σ G (substitute reduce (single (skeleton A) N) M) (instantiate_type A N B)
  instance_is_typed = over.instance_is_typed Σ (λ m. None) ok

  pub instance_is_type : (G : List LfType) (A : LfType) (N : Term) (B : LfType) → IsContext Σ G → IsType Σ G A → IsType Σ (A ∷ G) B → HasType Σ G N A → IsType Σ G (instantiate_type A N B)
  instance_is_type = over.instance_is_type Σ (λ m. None) ok
