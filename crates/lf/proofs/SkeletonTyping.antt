-- Skeleton typing under renaming and hereditary substitution.
use Rattle.std.proofs.Common.{ℕ, zero, suc, List, ◌∷◌, sym, subst}
use Rattle.lf.specs.Syntax.{Head, constant, variable, metavariable, Term, Spine, lambda, root, nil, app, Skeleton, base, arrow, lift_renaming, rename_head, rename, rename_spine}
use Rattle.lf.specs.Substitution.{Image, keep, put, rename_image, lift, single, apply_image, substitute, substitute_spine, reduce}
use Rattle.lf.specs.SkeletonTyping.{HeadSkeletons, HeadSkeleton, TermSkeleton, SpineSkeleton, ImageSkeleton, SubstitutionBySkeletons, RenamingBySkeletons}
use Rattle.lf.proofs.Renaming.{OnPut, Puts, Puts-lift, Puts-single, OnPut-all, reduction_beta}

pub renaming_by_skeletons_under_binder : (Γ Δ : List Skeleton) (ρ : ℕ → ℕ) (a : Skeleton) → RenamingBySkeletons Γ Δ ρ → RenamingBySkeletons (a ∷ Γ) (a ∷ Δ) (lift_renaming ρ)
renaming_by_skeletons_under_binder Γ Δ ρ a h zero t g = g
renaming_by_skeletons_under_binder Γ Δ ρ a h (suc i) t g = h i t g

module _ (κ : HeadSkeletons) where
  HeadSkeleton-renamed : (Γ Δ : List Skeleton) (ρ : ℕ → ℕ) (h : Head) (t : Skeleton) → RenamingBySkeletons Γ Δ ρ → HeadSkeleton κ Γ h t → HeadSkeleton κ Δ (rename_head ρ h) t
  HeadSkeleton-renamed Γ Δ ρ (constant c) t g k = k
  HeadSkeleton-renamed Γ Δ ρ (metavariable c) t g k = k
  HeadSkeleton-renamed Γ Δ ρ (variable i) t g k = g i t k

  mutual
    pub renaming_keeps_skeletons : (Γ Δ : List Skeleton) (ρ : ℕ → ℕ) (M : Term) (t : Skeleton) → RenamingBySkeletons Γ Δ ρ → TermSkeleton κ Γ M t → TermSkeleton κ Δ (rename ρ M) t
    renaming_keeps_skeletons Γ Δ ρ (lambda M) (arrow a b) g m = renaming_keeps_skeletons (a ∷ Γ) (a ∷ Δ) (lift_renaming ρ) M b (renaming_by_skeletons_under_binder Γ Δ ρ a g) m
    renaming_keeps_skeletons Γ Δ ρ (lambda M) (base c) g m = m
    renaming_keeps_skeletons Γ Δ ρ (root h S) (arrow a b) g m = m
    renaming_keeps_skeletons Γ Δ ρ (root h S) (base c) g (t, k, s) = (t, HeadSkeleton-renamed Γ Δ ρ h t g k, renaming_keeps_spine_skeletons Γ Δ ρ S t (base c) g s)

    pub renaming_keeps_spine_skeletons : (Γ Δ : List Skeleton) (ρ : ℕ → ℕ) (S : Spine) (t u : Skeleton) → RenamingBySkeletons Γ Δ ρ → SpineSkeleton κ Γ S t u → SpineSkeleton κ Δ (rename_spine ρ S) t u
    renaming_keeps_spine_skeletons Γ Δ ρ nil t u g m = m
    renaming_keeps_spine_skeletons Γ Δ ρ (app M S) (arrow a b) u g (m, s) = (renaming_keeps_skeletons Γ Δ ρ M a g m, renaming_keeps_spine_skeletons Γ Δ ρ S b u g s)
    renaming_keeps_spine_skeletons Γ Δ ρ (app M S) (base c) u g m = m

  ImageSkeleton-weakened : (b : Skeleton) (Δ : List Skeleton) (x : Image) (t : Skeleton) → ImageSkeleton κ Δ x t → ImageSkeleton κ (b ∷ Δ) (rename_image suc x) t
  ImageSkeleton-weakened b Δ (keep i) t m = m
  ImageSkeleton-weakened b Δ (put a N) t (e, m) = (e, renaming_keeps_skeletons Δ (b ∷ Δ) suc N a (λ i t g. g) m)

  pub lift_by_skeletons : (b : Skeleton) (Γ Δ : List Skeleton) (σ : ℕ → Image) → SubstitutionBySkeletons κ Γ Δ σ → SubstitutionBySkeletons κ (b ∷ Γ) (b ∷ Δ) (lift σ)
  lift_by_skeletons b Γ Δ σ g zero t e = e
  lift_by_skeletons b Γ Δ σ g (suc i) t e = ImageSkeleton-weakened b Δ (σ i) t (g i t e)

  pub single_by_skeletons : (a : Skeleton) (Γ : List Skeleton) (N : Term) → TermSkeleton κ Γ N a → SubstitutionBySkeletons κ (a ∷ Γ) Γ (single a N)
  single_by_skeletons a Γ N m zero t e = (e, m)
  single_by_skeletons a Γ N m (suc i) t g = g

  -- what `reduce` is to do at a skeleton
  abbrev pub ReductionOk : Skeleton → Type 0
  ReductionOk a = (Δ : List Skeleton) (N : Term) (S : Spine) (u : Skeleton) → TermSkeleton κ Δ N a → SpineSkeleton κ Δ S a u → TermSkeleton κ Δ (reduce a N S) u

  TermSkeleton-apply_image : (Δ : List Skeleton) (x : Image) (S : Spine) (t : Skeleton) (c : ℕ) → OnPut ReductionOk x → ImageSkeleton κ Δ x t → SpineSkeleton κ Δ S t (base c) → TermSkeleton κ Δ (apply_image reduce x S) (base c)
  TermSkeleton-apply_image Δ (keep i) S t c k g s = (t, g, s)
  TermSkeleton-apply_image Δ (put a N) S t c k (e, n) s = k Δ N S (base c) n (subst (λ w. SpineSkeleton κ Δ S w (base c)) (sym e) s)

  mutual
    TermSkeleton-substituted' : (Γ Δ : List Skeleton) (σ : ℕ → Image) (M : Term) (t : Skeleton) → Puts ReductionOk σ → SubstitutionBySkeletons κ Γ Δ σ → TermSkeleton κ Γ M t → TermSkeleton κ Δ (substitute reduce σ M) t
    TermSkeleton-substituted' Γ Δ σ (lambda M) (arrow b c) k g m = TermSkeleton-substituted' (b ∷ Γ) (b ∷ Δ) (lift σ) M c (Puts-lift ReductionOk σ k) (lift_by_skeletons b Γ Δ σ g) m
    TermSkeleton-substituted' Γ Δ σ (lambda M) (base c) k g m = absurd m
    TermSkeleton-substituted' Γ Δ σ (root h S) (arrow b c) k g m = absurd m
    TermSkeleton-substituted' Γ Δ σ (root (constant d) S) (base c) k g (t, e, s) = (t, e, SpineSkeleton-substituted' Γ Δ σ S t (base c) k g s)
    TermSkeleton-substituted' Γ Δ σ (root (metavariable d) S) (base c) k g (t, e, s) = (t, e, SpineSkeleton-substituted' Γ Δ σ S t (base c) k g s)
    TermSkeleton-substituted' Γ Δ σ (root (variable i) S) (base c) k g (t, e, s) = TermSkeleton-apply_image Δ (σ i) (substitute_spine reduce σ S) t c (k i) (g i t e) (SpineSkeleton-substituted' Γ Δ σ S t (base c) k g s)

    SpineSkeleton-substituted' : (Γ Δ : List Skeleton) (σ : ℕ → Image) (S : Spine) (t u : Skeleton) → Puts ReductionOk σ → SubstitutionBySkeletons κ Γ Δ σ → SpineSkeleton κ Γ S t u → SpineSkeleton κ Δ (substitute_spine reduce σ S) t u
    SpineSkeleton-substituted' Γ Δ σ nil t u k g m = m
    SpineSkeleton-substituted' Γ Δ σ (app M S) (arrow b c) u k g (m, s) = (TermSkeleton-substituted' Γ Δ σ M b k g m, SpineSkeleton-substituted' Γ Δ σ S c u k g s)
    SpineSkeleton-substituted' Γ Δ σ (app M S) (base c) u k g m = absurd m

  pub reduction_keeps_skeletons : (a : Skeleton) → ReductionOk a
  reduction_keeps_skeletons (base c) Δ N nil u n s = subst (TermSkeleton κ Δ N) s n
  reduction_keeps_skeletons (base c) Δ N (app M S) u n s = absurd s
  reduction_keeps_skeletons (arrow a b) Δ (root h T) S u n s = absurd n
  reduction_keeps_skeletons (arrow a b) Δ (lambda M) nil u n s = subst (TermSkeleton κ Δ (lambda M)) s n
  reduction_keeps_skeletons (arrow a b) Δ (lambda M) (app N S) u n (m, s) = subst (λ X. TermSkeleton κ Δ X u) (sym (reduction_beta a b M N S)) (reduction_keeps_skeletons b Δ (substitute reduce (single a N) M) S u (TermSkeleton-substituted' (a ∷ Δ) Δ (single a N) M b (Puts-single ReductionOk a N (reduction_keeps_skeletons a)) (single_by_skeletons a Δ N m) n) s)

  pub substitution_keeps_skeletons : (Γ Δ : List Skeleton) (σ : ℕ → Image) (M : Term) (t : Skeleton) → SubstitutionBySkeletons κ Γ Δ σ → TermSkeleton κ Γ M t → TermSkeleton κ Δ (substitute reduce σ M) t
  substitution_keeps_skeletons Γ Δ σ M t = TermSkeleton-substituted' Γ Δ σ M t (λ i. OnPut-all ReductionOk reduction_keeps_skeletons (σ i))

  pub substitution_keeps_spine_skeletons : (Γ Δ : List Skeleton) (σ : ℕ → Image) (S : Spine) (t u : Skeleton) → SubstitutionBySkeletons κ Γ Δ σ → SpineSkeleton κ Γ S t u → SpineSkeleton κ Δ (substitute_spine reduce σ S) t u
  substitution_keeps_spine_skeletons Γ Δ σ S t u = SpineSkeleton-substituted' Γ Δ σ S t u (λ i. OnPut-all ReductionOk reduction_keeps_skeletons (σ i))
