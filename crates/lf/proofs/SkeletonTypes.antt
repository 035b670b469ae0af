-- Skeleton typing and composition of substitutions, on types and kinds.
use Rattle.std.proofs.Common.{◌≡◌, ℕ, List, ◌∷◌, Option, refl, sym, ap, ap₂, ◌∙◌, subst}
use mathlib.Core.Path.{fun_ext}
use Rattle.lf.specs.Syntax.{Term, LfType, Kind, pi, atom, kind_pi, star, Skeleton, base, skeleton, lift_renaming, rename_type}
use Rattle.lf.specs.Substitution.{Image, lift, single, substitute, substitute_type, substitute_kind, reduce, after}
use Rattle.lf.specs.SkeletonTyping.{HeadSkeletons, TermSkeleton, TypeBySkeletons, KindBySkeletons, SubstitutionBySkeletons, RenamingBySkeletons}
use Rattle.lf.proofs.SkeletonTyping.{renaming_by_skeletons_under_binder, renaming_keeps_spine_skeletons, lift_by_skeletons, single_by_skeletons, substitution_keeps_skeletons, substitution_keeps_spine_skeletons}
use Rattle.lf.proofs.TypeLaws.{skeleton_renamed, skeleton_substituted}
use Rattle.lf.proofs.Composition.{after_lift, substitutions_compose_spine, around_all}

module _ (φ : ℕ → Option Skeleton) (κ : HeadSkeletons) where
  pub renaming_keeps_types_by_skeletons : (Γ Δ : List Skeleton) (ρ : ℕ → ℕ) (A : LfType) → RenamingBySkeletons Γ Δ ρ → TypeBySkeletons φ κ Γ A → TypeBySkeletons φ κ Δ (rename_type ρ A)
  renaming_keeps_types_by_skeletons Γ Δ ρ (pi A B) g (a, b) = (renaming_keeps_types_by_skeletons Γ Δ ρ A g a, subst (λ t. TypeBySkeletons φ κ (t ∷ Δ) (rename_type (lift_renaming ρ) B)) (sym (skeleton_renamed ρ A)) (renaming_keeps_types_by_skeletons (skeleton A ∷ Γ) (skeleton A ∷ Δ) (lift_renaming ρ) B (renaming_by_skeletons_under_binder Γ Δ ρ (skeleton A) g) b))
  renaming_keeps_types_by_skeletons Γ Δ ρ (atom c S) g (t, e, s) = (t, e, renaming_keeps_spine_skeletons κ Γ Δ ρ S t (base c) g s)

  pub substitution_keeps_types_by_skeletons : (Γ Δ : List Skeleton) (σ : ℕ → Image) (A : LfType) → SubstitutionBySkeletons κ Γ Δ σ → TypeBySkeletons φ κ Γ A → TypeBySkeletons φ κ Δ (substitute_type reduce σ A)
  substitution_keeps_types_by_skeletons Γ Δ σ (pi A B) g (a, b) = (substitution_keeps_types_by_skeletons Γ Δ σ A g a, subst (λ t. TypeBySkeletons φ κ (t ∷ Δ) (substitute_type reduce (lift σ) B)) (sym (skeleton_substituted reduce σ A)) (substitution_keeps_types_by_skeletons (skeleton A ∷ Γ) (skeleton A ∷ Δ) (lift σ) B (lift_by_skeletons κ (skeleton A) Γ Δ σ g) b))
  substitution_keeps_types_by_skeletons Γ Δ σ (atom c S) g (t, e, s) = (t, e, substitution_keeps_spine_skeletons κ Γ Δ σ S t (base c) g s)

  pub substitution_keeps_kinds_by_skeletons : (Γ Δ : List Skeleton) (σ : ℕ → Image) (K : Kind) → SubstitutionBySkeletons κ Γ Δ σ → KindBySkeletons φ κ Γ K → KindBySkeletons φ κ Δ (substitute_kind reduce σ K)
  substitution_keeps_kinds_by_skeletons Γ Δ σ (kind_pi A K) g (a, k) = (substitution_keeps_types_by_skeletons Γ Δ σ A g a, subst (λ t. KindBySkeletons φ κ (t ∷ Δ) (substitute_kind reduce (lift σ) K)) (sym (skeleton_substituted reduce σ A)) (substitution_keeps_kinds_by_skeletons (skeleton A ∷ Γ) (skeleton A ∷ Δ) (lift σ) K (lift_by_skeletons κ (skeleton A) Γ Δ σ g) k))
  substitution_keeps_kinds_by_skeletons Γ Δ σ star g k = k

  pub substitutions_compose_type : (Γ Γ' Δ : List Skeleton) (σ τ : ℕ → Image) (A : LfType) → SubstitutionBySkeletons κ Γ Γ' σ → SubstitutionBySkeletons κ Γ' Δ τ → TypeBySkeletons φ κ Γ A → substitute_type reduce τ (substitute_type reduce σ A) ≡ substitute_type reduce (after τ σ) A
  substitutions_compose_type Γ Γ' Δ σ τ (pi A B) v w (a, b) = ap₂ pi (substitutions_compose_type Γ Γ' Δ σ τ A v w a) (substitutions_compose_type (skeleton A ∷ Γ) (skeleton A ∷ Γ') (skeleton A ∷ Δ) (lift σ) (lift τ) B (lift_by_skeletons κ (skeleton A) Γ Γ' σ v) (lift_by_skeletons κ (skeleton A) Γ' Δ τ w) b ∙ ap (λ f. substitute_type reduce f B) (sym (fun_ext (after_lift τ σ))))
  substitutions_compose_type Γ Γ' Δ σ τ (atom c S) v w (t, e, s) = ap (atom c) (substitutions_compose_spine κ Γ Γ' Δ σ τ S t (base c) v w s)

  pub substitutions_compose_kind : (Γ Γ' Δ : List Skeleton) (σ τ : ℕ → Image) (K : Kind) → SubstitutionBySkeletons κ Γ Γ' σ → SubstitutionBySkeletons κ Γ' Δ τ → KindBySkeletons φ κ Γ K → substitute_kind reduce τ (substitute_kind reduce σ K) ≡ substitute_kind reduce (after τ σ) K
  substitutions_compose_kind Γ Γ' Δ σ τ (kind_pi A K) v w (a, k) = ap₂ kind_pi (substitutions_compose_type Γ Γ' Δ σ τ A v w a) (substitutions_compose_kind (skeleton A ∷ Γ) (skeleton A ∷ Γ') (skeleton A ∷ Δ) (lift σ) (lift τ) K (lift_by_skeletons κ (skeleton A) Γ Γ' σ v) (lift_by_skeletons κ (skeleton A) Γ' Δ τ w) k ∙ ap (λ f. substitute_kind reduce f K) (sym (fun_ext (after_lift τ σ))))
  substitutions_compose_kind Γ Γ' Δ σ τ star v w k = refl

  -- a substitution goes through a single one
  pub substitute_single_type : (Γ Δ : List Skeleton) (τ : ℕ → Image) (a : Skeleton) (N : Term) (B : LfType) → SubstitutionBySkeletons κ Γ Δ τ → TermSkeleton κ Γ N a → TypeBySkeletons φ κ (a ∷ Γ) B → substitute_type reduce τ (substitute_type reduce (single a N) B) ≡ substitute_type reduce (single a (substitute reduce τ N)) (substitute_type reduce (lift τ) B)
  substitute_single_type Γ Δ τ a N B w n b = substitutions_compose_type (a ∷ Γ) Γ Δ (single a N) τ B (single_by_skeletons κ a Γ N n) w b ∙ ap (λ f. substitute_type reduce f B) (around_all τ a N) ∙ sym (substitutions_compose_type (a ∷ Γ) (a ∷ Δ) Δ (lift τ) (single a (substitute reduce τ N)) B (lift_by_skeletons κ a Γ Δ τ w) (single_by_skeletons κ a Δ (substitute reduce τ N) (substitution_keeps_skeletons κ Γ Δ τ N a w n)) b)

  pub substitute_single_kind : (Γ Δ : List Skeleton) (τ : ℕ → Image) (a : Skeleton) (N : Term) (K : Kind) → SubstitutionBySkeletons κ Γ Δ τ → TermSkeleton κ Γ N a → KindBySkeletons φ κ (a ∷ Γ) K → substitute_kind reduce τ (substitute_kind reduce (single a N) K) ≡ substitute_kind reduce (single a (substitute reduce τ N)) (substitute_kind reduce (lift τ) K)
  substitute_single_kind Γ Δ τ a N K w n k = substitutions_compose_kind (a ∷ Γ) Γ Δ (single a N) τ K (single_by_skeletons κ a Γ N n) w k ∙ ap (λ f. substitute_kind reduce f K) (around_all τ a N) ∙ sym (substitutions_compose_kind (a ∷ Γ) (a ∷ Δ) Δ (lift τ) (single a (substitute reduce τ N)) K (lift_by_skeletons κ a Γ Δ τ w) (single_by_skeletons κ a Δ (substitute reduce τ N) (substitution_keeps_skeletons κ Γ Δ τ N a w n)) k)

  pub single_type_by_skeletons : (a : Skeleton) (Γ : List Skeleton) (N : Term) (B : LfType) → TermSkeleton κ Γ N a → TypeBySkeletons φ κ (a ∷ Γ) B → TypeBySkeletons φ κ Γ (substitute_type reduce (single a N) B)
  single_type_by_skeletons a Γ N B n b = substitution_keeps_types_by_skeletons (a ∷ Γ) Γ (single a N) B (single_by_skeletons κ a Γ N n) b

  pub single_kind_by_skeletons : (a : Skeleton) (Γ : List Skeleton) (N : Term) (K : Kind) → TermSkeleton κ Γ N a → KindBySkeletons φ κ (a ∷ Γ) K → KindBySkeletons φ κ Γ (substitute_kind reduce (single a N) K)
  single_kind_by_skeletons a Γ N K n k = substitution_keeps_kinds_by_skeletons (a ∷ Γ) Γ (single a N) K (single_by_skeletons κ a Γ N n) k
