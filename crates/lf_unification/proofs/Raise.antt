-- A raised metavariable at the local variables is the body of its value.
use Rattle.std.proofs.Common.{◌≡◌, ℕ, zero, suc, List, [], ◌∷◌, Option, Some, refl, sym, ap, ap₂, ◌∙◌}
use Rattle.lf.specs.Eta.{eta_expand, add_last}
use Rattle.lf.specs.Substitution.{reduce}
use Rattle.lf.specs.SkeletonTyping.{SpineSkeleton, TermSkeleton}
use Rattle.lf.specs.Skeletons.{context_skeletons}
use Rattle.lf.specs.Syntax.{Skeleton, Spine, Term, LfType, app, arrow, base, lambda, metavariable, nil, pi, rename, rename_spine, root, skeleton}
use Rattle.lf.specs.Typing.{HasType, Signature}
use Rattle.lf.specs.Variables.{onto}
use Rattle.lf_unification.specs.Filling.{fill, fill_spine, fill_type, moved, fill_metavariable, rename_value}
use Rattle.lf_unification.specs.OpenTyping.{fill_locals, under_locals}
use Rattle.lf_unification.specs.Patterns.{local_skeletons}
use Rattle.lf_unification.specs.Patterns.{eta_variable}
use Rattle.lf_unification.specs.Offering.{lambda_over, local_arguments, pi_over, raised}
use Rattle.lf_unification.specs.Skeletons.{TotalSkeletons, as_head_skeletons}
use Rattle.lf.proofs.Eta.{eta_expand_has_skeleton, reduce_nil}
use Rattle.lf.proofs.Renaming.{reduction_is_natural}
use Rattle.lf.proofs.SkeletonTyping.{renaming_keeps_spine_skeletons, renaming_keeps_skeletons, reduction_keeps_skeletons}
use Rattle.lf_unification.proofs.Eta.{SpineSkeleton-add_last, eta_reduced, reduce_add_last, skeletons_zero}
use Rattle.lf_unification.proofs.Filling.{SkeletonsFill, SkeletonsFill-weak, SpineSkeleton-fill, fill_rename_spine, skeleton_fill}
use Rattle.lf_unification.proofs.Patterns.{fill_add, fill_expand}

-- closing over a local context
pub lambda_over_injective : (D : List LfType) (M N : Term) → lambda_over D M ≡ lambda_over D N → M ≡ N
lambda_over_injective [] M N e = e
lambda_over_injective (A ∷ D) M N e = let p : lambda M ≡ lambda N = lambda_over_injective D (lambda M) (lambda N) e in cc

pub fill_lambda_over : (μ : ℕ → Skeleton) (β : ℕ → Option Term) (D : List LfType) (M : Term) → fill μ β (lambda_over D M) ≡ lambda_over D (fill μ (under_locals D β) M)
fill_lambda_over μ β [] M = refl
fill_lambda_over μ β (A ∷ D) M = fill_lambda_over μ β D (lambda M)

pub lambda_over_fill : (μ : ℕ → Skeleton) (β : ℕ → Option Term) (D : List LfType) (M : Term) → lambda_over (fill_locals μ β D) M ≡ lambda_over D M
lambda_over_fill μ β [] M = refl
lambda_over_fill μ β (A ∷ D) M = lambda_over_fill μ β D (lambda M)

pub fill_pis : (μ : ℕ → Skeleton) (β : ℕ → Option Term) (D : List LfType) (P : LfType) → fill_type μ β (pi_over D P) ≡ pi_over (fill_locals μ β D) (fill_type μ (under_locals D β) P)
fill_pis μ β [] P = refl
fill_pis μ β (A ∷ D) P = fill_pis μ β D (pi A P)

pub has_lambda : (Σ : Signature) (F D : List LfType) (M : Term) (P : LfType) → HasType Σ (onto D F) M P → HasType Σ F (lambda_over D M) (pi_over D P)
has_lambda Σ F [] M P m = m
has_lambda Σ F (A ∷ D) M P m = has_lambda Σ F D (lambda M) (pi A P) m

pub has_body : (Σ : Signature) (F D : List LfType) (V : Term) (P : LfType) → HasType Σ F V (pi_over D P) → (M : Term) × (V ≡ lambda_over D M) × HasType Σ (onto D F) M P
has_body Σ F [] V P m = (V, refl, m)
has_body Σ F (A ∷ D) V P m = let (M, e, h) = has_body Σ F D V (pi A P) m in go M e h
  where
    go : (M : Term) → V ≡ lambda_over D M → HasType Σ (onto D F) M (pi A P) → (N : Term) × (V ≡ lambda_over D (lambda N)) × HasType Σ (A ∷ onto D F) N P
    go (lambda N) e h = (N, e, h)
    go (root k S) e h = absurd h

pub expand_pis : (D : List LfType) (B : LfType) (n : ℕ) → eta_expand (skeleton (pi_over D B)) (metavariable n) nil ≡ lambda_over D (raised D B n)
expand_pis [] B n = refl
expand_pis (A ∷ D) B n = expand_pis D (pi A B) n

-- skeletons of a local context over another
pub local_skeleton_fill : (μ : ℕ → Skeleton) (β : ℕ → Option Term) (D F : List LfType) → context_skeletons (onto (fill_locals μ β D) F) ≡ local_skeletons D (context_skeletons F)
local_skeleton_fill μ β [] F = refl
local_skeleton_fill μ β (A ∷ D) F = ap₂ (λ a Γ. a ∷ Γ) (skeleton_fill μ (under_locals D β) A) (local_skeleton_fill μ β D F)

module _ (κ : TotalSkeletons) where
  -- an eta-long metavariable, filled
  pub fill_eta : (b : Skeleton) → (Γ : List Skeleton) (β : ℕ → Option Term) (n : ℕ) (V : Term) (T : Spine) → SkeletonsFill κ Γ β → β n ≡ Some V → TermSkeleton (as_head_skeletons κ) Γ V (κ.metavariable_skeleton n) → SpineSkeleton (as_head_skeletons κ) Γ T (κ.metavariable_skeleton n) b → fill κ.metavariable_skeleton β (eta_expand b (metavariable n) T) ≡ reduce (κ.metavariable_skeleton n) V (fill_spine κ.metavariable_skeleton β T)
  fill_eta (base c) Γ β n V T g e v s = ap (λ y. fill_metavariable (κ.metavariable_skeleton n) n y (fill_spine κ.metavariable_skeleton β T)) e
  fill_eta (arrow b₁ b₂) Γ β n V T g e v s =
      let μ : ℕ → Skeleton = κ.metavariable_skeleton in
      let a : Skeleton = κ.metavariable_skeleton n in
      let T' : Spine = fill_spine μ β T in
      let Γ' : List Skeleton = (b₁ ∷ Γ) in
      let o : TermSkeleton (as_head_skeletons κ) Γ' (eta_variable b₁ zero) b₁ = skeletons_zero (as_head_skeletons κ) b₁ Γ in
      let s' : SpineSkeleton (as_head_skeletons κ) Γ' (add_last (rename_spine suc T) (eta_variable b₁ zero)) a b₂ = SpineSkeleton-add_last (as_head_skeletons κ) Γ' (rename_spine suc T) (eta_variable b₁ zero) a b₁ b₂ (renaming_keeps_spine_skeletons (as_head_skeletons κ) Γ Γ' suc T a (arrow b₁ b₂) (λ i t g. g) s) o in
      let v' : TermSkeleton (as_head_skeletons κ) Γ' (rename suc V) a = renaming_keeps_skeletons (as_head_skeletons κ) Γ Γ' suc V a (λ i t g. g) v in
      let t' : SpineSkeleton (as_head_skeletons κ) Γ T' a (arrow b₁ b₂) = SpineSkeleton-fill κ Γ β T a (arrow b₁ b₂) g s in
      let p₁ : fill μ (moved suc β) (eta_expand b₂ (metavariable n) (add_last (rename_spine suc T) (eta_variable b₁ zero))) ≡ reduce a (rename suc V) (fill_spine μ (moved suc β) (add_last (rename_spine suc T) (eta_variable b₁ zero)))
      = fill_eta b₂ Γ' (moved suc β) n (rename suc V) (add_last (rename_spine suc T) (eta_variable b₁ zero)) (SkeletonsFill-weak κ b₁ Γ β g) (ap (rename_value suc) e) v' s' in
      let p₂ : fill_spine μ (moved suc β) (add_last (rename_spine suc T) (eta_variable b₁ zero)) ≡ add_last (rename_spine suc T') (eta_variable b₁ zero)
      = fill_add μ (moved suc β) (rename_spine suc T) (eta_variable b₁ zero) ∙ ap₂ add_last (sym (fill_rename_spine μ suc β T)) (fill_expand μ b₁ (moved suc β) zero nil) in
      let p₃ : reduce a (rename suc V) (add_last (rename_spine suc T') (eta_variable b₁ zero)) ≡ reduce (arrow b₁ b₂) (reduce a (rename suc V) (rename_spine suc T')) (app (eta_variable b₁ zero) nil)
      = reduce_add_last (as_head_skeletons κ) a Γ' (rename suc V) (rename_spine suc T') (eta_variable b₁ zero) b₁ b₂ v' (renaming_keeps_spine_skeletons (as_head_skeletons κ) Γ Γ' suc T' a (arrow b₁ b₂) (λ i t g. g) t') in
      let p₄ : reduce a (rename suc V) (rename_spine suc T') ≡ rename suc (reduce a V T') = sym (reduction_is_natural a suc V T') in
      ap lambda (p₁ ∙ ap (reduce a (rename suc V)) p₂ ∙ p₃ ∙ ap (λ z. reduce (arrow b₁ b₂) z (app (eta_variable b₁ zero) nil)) p₄)
      ∙ eta_reduced (as_head_skeletons κ) b₁ b₂ Γ (reduce a V T') (reduction_keeps_skeletons (as_head_skeletons κ) a Γ V T' (arrow b₁ b₂) v t')

  -- THE law: at the local variables it is the body
  pub fill_raised : (Γ : List Skeleton) (β : ℕ → Option Term) (D : List LfType) (B : LfType) (n : ℕ) (M : Term) → SkeletonsFill κ Γ β → κ.metavariable_skeleton n ≡ skeleton (pi_over D B) → β n ≡ Some (lambda_over D M) → TermSkeleton (as_head_skeletons κ) Γ (lambda_over D M) (κ.metavariable_skeleton n) → fill κ.metavariable_skeleton (under_locals D β) (raised D B n) ≡ M
  fill_raised Γ β D B n M g q e v =
      let p : fill κ.metavariable_skeleton β (eta_expand (skeleton (pi_over D B)) (metavariable n) nil) ≡ lambda_over D M = fill_eta (skeleton (pi_over D B)) Γ β n (lambda_over D M) nil g e v q ∙ reduce_nil (κ.metavariable_skeleton n) (lambda_over D M) in
      lambda_over_injective D (fill κ.metavariable_skeleton (under_locals D β) (raised D B n)) M (sym (fill_lambda_over κ.metavariable_skeleton β D (raised D B n)) ∙ ap (fill κ.metavariable_skeleton β) (sym (expand_pis D B n)) ∙ p)

  -- the local variables by skeletons
  pub skeletons_locals : (D : List LfType) (Γ : List Skeleton) (B : LfType) → SpineSkeleton (as_head_skeletons κ) (local_skeletons D Γ) (local_arguments D) (skeleton (pi_over D B)) (skeleton B)
  skeletons_locals [] Γ B = refl
  skeletons_locals (A ∷ D) Γ B = SpineSkeleton-add_last (as_head_skeletons κ) (skeleton A ∷ local_skeletons D Γ) (rename_spine suc (local_arguments D)) (eta_variable (skeleton A) zero) (skeleton (pi_over D (pi A B))) (skeleton A) (skeleton B)
      (renaming_keeps_spine_skeletons (as_head_skeletons κ) (local_skeletons D Γ) (skeleton A ∷ local_skeletons D Γ) suc (local_arguments D) (skeleton (pi_over D (pi A B))) (arrow (skeleton A) (skeleton B)) (λ i t g. g) (skeletons_locals D Γ (pi A B)))
      (skeletons_zero (as_head_skeletons κ) (skeleton A) (local_skeletons D Γ))

  pub skeletons_raised : (D : List LfType) (Γ : List Skeleton) (B : LfType) (n : ℕ) → κ.metavariable_skeleton n ≡ skeleton (pi_over D B) → TermSkeleton (as_head_skeletons κ) (local_skeletons D Γ) (raised D B n) (skeleton B)
  skeletons_raised D Γ B n e = eta_expand_has_skeleton (as_head_skeletons κ) (skeleton B) (skeleton (pi_over D B)) (local_skeletons D Γ) (metavariable n) (local_arguments D) (ap Some e) (skeletons_locals D Γ B)
