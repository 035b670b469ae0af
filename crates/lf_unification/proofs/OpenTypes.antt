-- Types that are typed up to U are typed under each instance in U.
use Rattle.std.proofs.Common.{◌≡◌, ℕ, suc, List, ◌∷◌, Option, refl, sym, ap, ap₂, ◌∙◌, subst}
use Rattle.lf.specs.Substitution.{Image, lift, reduce, single, substitute_kind}
use Rattle.lf.specs.SkeletonTyping.{KindBySkeletons, TermSkeleton}
use Rattle.lf.specs.Skeletons.{context_skeletons, family_skeletons}
use Rattle.lf.specs.Syntax.{Kind, Skeleton, Spine, Term, LfType, app, atom, kind_pi, nil, pi, skeleton, star}
use Rattle.lf.specs.Typing.{SpineFitsKind, IsKind, IsSignature, IsType, Signature, instantiate_kind}
use Rattle.lf.specs.Variables.{onto}
use Rattle.lf_unification.specs.Filling.{fill, fill_spine, fill_type, moved}
use Rattle.lf_unification.specs.PartialInstance.{PartialInstance}
use Rattle.lf_unification.specs.OpenTyping.{MetavariablesInSpine, MetavariablesInType, OpenSpineFitsKind, OpenIsContext, DeclarationsAreTyped, OpenIsType, fill_locals, skeletons_of, under_locals}
use Rattle.lf_unification.specs.Skeletons.{TotalSkeletons, as_head_skeletons, total_skeletons}
use Rattle.lf.proofs.SkeletonTypes.{single_kind_by_skeletons}
use Rattle.lf.proofs.Substitution.{family_kind}
use Rattle.lf_unification.proofs.Filling.{Filled, Filled-lift, Filled-single, SkeletonsFill, fill_substituted_type, skeleton_fill}
use Rattle.lf_unification.proofs.OpenSound.{SkeletonContext-fill, SkeletonContext-local, LocalTypesBySkeletons, LocalTypesBySkeletons-of, LocalTypesBySkeletons-push, OpenHasType-by_skeletons, OpenHasType-sound', OpenIsType-by_skeletons, fill_typed_type, skeletons_under}
use Rattle.lf_unification.proofs.Substitution.{SkeletonContext}
use Rattle.lf_unification.proofs.ToSkeletons.{kind_by_skeletons}

abbrev pub fill_kind : (ℕ → Skeleton) → (ℕ → Option Term) → Kind → Kind
fill_kind μ β (kind_pi A K) = kind_pi (fill_type μ β A) (fill_kind μ (moved suc β) K)
fill_kind μ β star = star

fill_substituted_kind : (κ : TotalSkeletons) (φ : ℕ → Option Skeleton) (Γ Δ : List Skeleton) (β β' : ℕ → Option Term) (σ σ' : ℕ → Image) (K : Kind) → Filled κ Γ Δ β β' σ σ' → KindBySkeletons φ (as_head_skeletons κ) Γ K → fill_kind κ.metavariable_skeleton β' (substitute_kind reduce σ K) ≡ substitute_kind reduce σ' (fill_kind κ.metavariable_skeleton β K)
fill_substituted_kind κ φ Γ Δ β β' σ σ' (kind_pi A K) w m = ap₂ kind_pi (fill_substituted_type κ φ Γ Δ β β' σ σ' A w m.0) (fill_substituted_kind κ φ (skeleton A ∷ Γ) (skeleton A ∷ Δ) (moved suc β) (moved suc β') (lift σ) (lift σ') K (Filled-lift κ (skeleton A) Γ Δ β β' σ σ' w) m.1)
fill_substituted_kind κ φ Γ Δ β β' σ σ' star w m = refl

pub fill_instance_kind : (κ : TotalSkeletons) (φ : ℕ → Option Skeleton) (Γ : List Skeleton) (β : ℕ → Option Term) (A : LfType) (M : Term) (K : Kind) → SkeletonsFill κ Γ β → TermSkeleton (as_head_skeletons κ) Γ M (skeleton A) → KindBySkeletons φ (as_head_skeletons κ) (skeleton A ∷ Γ) K → fill_kind κ.metavariable_skeleton β (instantiate_kind A M K) ≡ instantiate_kind (fill_type κ.metavariable_skeleton β A) (fill κ.metavariable_skeleton β M) (fill_kind κ.metavariable_skeleton (moved suc β) K)
fill_instance_kind κ φ Γ β A M K g m k =
    fill_substituted_kind κ φ (skeleton A ∷ Γ) Γ (moved suc β) β (single (skeleton A) M) (single (skeleton A) (fill κ.metavariable_skeleton β M)) K (Filled-single κ (skeleton A) Γ β M g m) k
    ∙ ap (λ t. substitute_kind reduce (single t (fill κ.metavariable_skeleton β M)) (fill_kind κ.metavariable_skeleton (moved suc β) K)) (sym (skeleton_fill κ.metavariable_skeleton β A))

pub fill_typed_kind : (Σ : Signature) (μ : ℕ → Skeleton) (G : List LfType) (β : ℕ → Option Term) (K : Kind) → IsKind Σ G K → fill_kind μ β K ≡ K
fill_typed_kind Σ μ G β (kind_pi A K) (a, k) = ap₂ kind_pi (fill_typed_type Σ μ G β A a) (fill_typed_kind Σ μ (A ∷ G) (moved suc β) K k)
fill_typed_kind Σ μ G β star k = refl

module _ (Σ : Signature) (ok : IsSignature Σ) (G : List LfType) (Ψ : ℕ → Option LfType) (U : (ℕ → Option Term) → Type 0) (V : ℕ → Type 0) (F : List LfType) (β : ℕ → Option Term) (w : PartialInstance Σ G Ψ V F β) (declarations_typed : DeclarationsAreTyped Σ G Ψ U) (u : U β) where
  abbrev μ : ℕ → Skeleton
  μ = skeletons_of Ψ

  abbrev κ : TotalSkeletons
  κ = total_skeletons Σ μ

  abbrev ctx' : List LfType → List LfType
  ctx' D = onto (fill_locals μ β D) F

  SkK : List LfType → Kind → Type 0
  SkK D K = KindBySkeletons (family_skeletons Σ) (as_head_skeletons κ) (context_skeletons (ctx' D)) K

  kind_spine_sound : (D : List LfType) (S : Spine) (K : Kind) → LocalTypesBySkeletons Σ ok G Ψ U V F β w declarations_typed u D → SkeletonContext Σ μ ok (ctx' D) → KindBySkeletons (family_skeletons Σ) (as_head_skeletons κ) (context_skeletons (ctx' D)) K → MetavariablesInSpine V S → OpenSpineFitsKind Σ G Ψ U D S K → SpineFitsKind Σ (ctx' D) (fill_spine μ (under_locals D β) S) (fill_kind μ (under_locals D β) K)
  kind_spine_sound D nil (kind_pi A K) l c k v s = absurd s
  kind_spine_sound D nil star l c k v s = s
  kind_spine_sound D (app M S) (kind_pi A K) l c (a, k) (v, vs) (m, s) =
      let m' = OpenHasType-by_skeletons Σ ok G Ψ U V F β w D M A m in (
        OpenHasType-sound' Σ ok G Ψ U V F β w declarations_typed u D M A l c a v m,
        subst (SpineFitsKind Σ (ctx' D) (fill_spine μ (under_locals D β) S)) (fill_instance_kind κ (family_skeletons Σ) (context_skeletons (ctx' D)) (under_locals D β) A M K (skeletons_under Σ ok G Ψ U V F β w D) m' k)
            (kind_spine_sound D S (instantiate_kind A M K) l c (single_kind_by_skeletons (family_skeletons Σ) (as_head_skeletons κ) (skeleton A) (context_skeletons (ctx' D)) M K m' k) vs s),
      )
  kind_spine_sound D (app M S) star l c k v s = absurd s

  pub OpenIsType-sound' : (D : List LfType) (A : LfType) → LocalTypesBySkeletons Σ ok G Ψ U V F β w declarations_typed u D → SkeletonContext Σ μ ok (ctx' D) → MetavariablesInType V A → OpenIsType Σ G Ψ U D A → IsType Σ (ctx' D) (fill_type μ (under_locals D β) A)
  OpenIsType-sound' D (pi A B) l c (v, v') (a, b) =
      let a' = OpenIsType-by_skeletons Σ ok G Ψ U V F β w D A a in
      (OpenIsType-sound' D A l c v a, OpenIsType-sound' (A ∷ D) B (LocalTypesBySkeletons-push Σ ok G Ψ U V F β w declarations_typed u D A l a') (SkeletonContext-fill Σ ok G Ψ U V F β w declarations_typed u D A c a') v' b)
  OpenIsType-sound' D (atom a S) l c v (K, e, s) =
      let k = family_kind Σ ok (ctx' D) a K e in
      (K, e, subst (SpineFitsKind Σ (ctx' D) (fill_spine μ (under_locals D β) S)) (fill_typed_kind Σ μ (ctx' D) (under_locals D β) K k) (kind_spine_sound D S K l c (kind_by_skeletons Σ μ (ctx' D) K k) v s))

  -- THE theorem on types
  pub OpenIsType-sound : (D : List LfType) (A : LfType) → OpenIsContext Σ G Ψ U D → MetavariablesInType V A → OpenIsType Σ G Ψ U D A → IsType Σ (ctx' D) (fill_type μ (under_locals D β) A)
  OpenIsType-sound D A l = OpenIsType-sound' D A (LocalTypesBySkeletons-of Σ ok G Ψ U V F β w declarations_typed u D l) (SkeletonContext-local Σ ok G Ψ U V F β w declarations_typed u D l)
