-- Filling goes along with skeleton typing, renaming and hereditary substitution.
use Rattle.std.proofs.Common.{◌≡◌, ℕ, zero, suc, List, ◌∷◌, Option, Some, None, refl, sym, ap, ap₂, ◌∙◌, subst}
use mathlib.Core.Path.{fun_ext}
use Rattle.lf.specs.Substitution.{Image, keep, lift, apply_image, put, reduce, rename_image, single, substitute, substitute_spine, substitute_type}
use Rattle.lf.specs.SkeletonTyping.{ImageSkeleton, SpineSkeleton, SubstitutionBySkeletons, TermSkeleton, TypeBySkeletons}
use Rattle.lf.specs.Syntax.{Skeleton, Spine, Term, LfType, app, arrow, atom, base, constant, lambda, metavariable, nil, pi, rename, rename_spine, rename_type, root, skeleton, lift_renaming, variable}
use Rattle.lf.specs.Typing.{instantiate_type}
use Rattle.lf_unification.specs.Filling.{fill, fill_spine, fill_type, moved, fill_metavariable, rename_value}
use Rattle.lf_unification.specs.Skeletons.{TotalSkeletons, as_head_skeletons}
use Rattle.lf.proofs.Composition.{substitute_reduction}
use Rattle.lf.proofs.Renaming.{OnPut, OnPut-all, Puts, Puts-lift, Puts-single, reduction_beta, reduction_is_natural, renamings_compose, lifted_substitution_weakened, substitute_weakened}
use Rattle.lf.proofs.SkeletonTyping.{substitution_keeps_spine_skeletons, lift_by_skeletons, single_by_skeletons, renaming_keeps_skeletons, substitution_keeps_skeletons, reduction_keeps_skeletons}

-- renaming

pub moved_up : (ρ : ℕ → ℕ) (x : Option Term) → rename_value (lift_renaming ρ) (rename_value suc x) ≡ rename_value suc (rename_value ρ x)
moved_up ρ None = refl
moved_up ρ (Some N) = ap Some (renamings_compose (lift_renaming ρ) suc N ∙ sym (renamings_compose suc ρ N))

rename_put_in : (ρ : ℕ → ℕ) (a : Skeleton) (m : ℕ) (x : Option Term) (S : Spine) → rename ρ (fill_metavariable a m x S) ≡ fill_metavariable a m (rename_value ρ x) (rename_spine ρ S)
rename_put_in ρ a m None S = refl
rename_put_in ρ a m (Some N) S = reduction_is_natural a ρ N S

mutual
  pub fill_rename : (μ : ℕ → Skeleton) (ρ : ℕ → ℕ) (β : ℕ → Option Term) (M : Term) → rename ρ (fill μ β M) ≡ fill μ (moved ρ β) (rename ρ M)
  fill_rename μ ρ β (lambda M) = ap lambda (fill_rename μ (lift_renaming ρ) (moved suc β) M ∙ ap (λ f. fill μ f (rename (lift_renaming ρ) M)) (fun_ext (λ m. moved_up ρ (β m))))
  fill_rename μ ρ β (root (constant c) S) = ap (root (constant c)) (fill_rename_spine μ ρ β S)
  fill_rename μ ρ β (root (variable i) S) = ap (root (variable (ρ i))) (fill_rename_spine μ ρ β S)
  fill_rename μ ρ β (root (metavariable m) S) = rename_put_in ρ (μ m) m (β m) (fill_spine μ β S) ∙ ap (fill_metavariable (μ m) m (rename_value ρ (β m))) (fill_rename_spine μ ρ β S)

  pub fill_rename_spine : (μ : ℕ → Skeleton) (ρ : ℕ → ℕ) (β : ℕ → Option Term) (S : Spine) → rename_spine ρ (fill_spine μ β S) ≡ fill_spine μ (moved ρ β) (rename_spine ρ S)
  fill_rename_spine μ ρ β nil = refl
  fill_rename_spine μ ρ β (app M S) = ap₂ app (fill_rename μ ρ β M) (fill_rename_spine μ ρ β S)

pub fill_rename_type : (μ : ℕ → Skeleton) (ρ : ℕ → ℕ) (β : ℕ → Option Term) (A : LfType) → rename_type ρ (fill_type μ β A) ≡ fill_type μ (moved ρ β) (rename_type ρ A)
fill_rename_type μ ρ β (pi A B) = ap₂ pi (fill_rename_type μ ρ β A) (fill_rename_type μ (lift_renaming ρ) (moved suc β) B ∙ ap (λ f. fill_type μ f (rename_type (lift_renaming ρ) B)) (fun_ext (λ m. moved_up ρ (β m))))
fill_rename_type μ ρ β (atom a S) = ap (atom a) (fill_rename_spine μ ρ β S)

pub skeleton_fill : (μ : ℕ → Skeleton) (β : ℕ → Option Term) (A : LfType) → skeleton (fill_type μ β A) ≡ skeleton A
skeleton_fill μ β (pi A B) = ap₂ arrow (skeleton_fill μ β A) (skeleton_fill μ (moved suc β) B)
skeleton_fill μ β (atom a S) = refl

abbrev pub fill_image : (ℕ → Skeleton) → (ℕ → Option Term) → Image → Image
fill_image μ β (keep i) = keep i
fill_image μ β (put a N) = put a (fill μ β N)

abbrev pub substituted_option : (ℕ → Image) → Option Term → Option Term
substituted_option σ None = None
substituted_option σ (Some N) = Some (substitute reduce σ N)

module _ (κ : TotalSkeletons) where
  abbrev pub ValueHasSkeleton : List Skeleton → Option Term → Skeleton → Type 0
  ValueHasSkeleton Γ None a = Unit {0}
  ValueHasSkeleton Γ (Some N) a = TermSkeleton (as_head_skeletons κ) Γ N a

  -- a filling by skeletons
  abbrev pub SkeletonsFill : List Skeleton → (ℕ → Option Term) → Type 0
  SkeletonsFill Γ β = (m : ℕ) → ValueHasSkeleton Γ (β m) (κ.metavariable_skeleton m)

  ValueHasSkeleton-weak : (b : Skeleton) (Γ : List Skeleton) (x : Option Term) (a : Skeleton) → ValueHasSkeleton Γ x a → ValueHasSkeleton (b ∷ Γ) (rename_value suc x) a
  ValueHasSkeleton-weak b Γ None a g = g
  ValueHasSkeleton-weak b Γ (Some N) a g = renaming_keeps_skeletons (as_head_skeletons κ) Γ (b ∷ Γ) suc N a (λ i t g. g) g

  pub SkeletonsFill-weak : (b : Skeleton) (Γ : List Skeleton) (β : ℕ → Option Term) → SkeletonsFill Γ β → SkeletonsFill (b ∷ Γ) (moved suc β)
  SkeletonsFill-weak b Γ β g m = ValueHasSkeleton-weak b Γ (β m) (κ.metavariable_skeleton m) (g m)

  some_skeleton : {a t : Skeleton} → Some a ≡ Some t → a ≡ t
  some_skeleton e = cc

  TermSkeleton-fill_metavariable : (Γ : List Skeleton) (m : ℕ) (x : Option Term) (S : Spine) (c : ℕ) → ValueHasSkeleton Γ x (κ.metavariable_skeleton m) → SpineSkeleton (as_head_skeletons κ) Γ S (κ.metavariable_skeleton m) (base c) → TermSkeleton (as_head_skeletons κ) Γ (fill_metavariable (κ.metavariable_skeleton m) m x S) (base c)
  TermSkeleton-fill_metavariable Γ m None S c g s = (κ.metavariable_skeleton m, refl, s)
  TermSkeleton-fill_metavariable Γ m (Some N) S c g s = reduction_keeps_skeletons (as_head_skeletons κ) (κ.metavariable_skeleton m) Γ N S (base c) g s

  mutual
    pub TermSkeleton-fill : (Γ : List Skeleton) (β : ℕ → Option Term) (M : Term) (t : Skeleton) → SkeletonsFill Γ β → TermSkeleton (as_head_skeletons κ) Γ M t → TermSkeleton (as_head_skeletons κ) Γ (fill κ.metavariable_skeleton β M) t
    TermSkeleton-fill Γ β (lambda M) (arrow b c) g m = TermSkeleton-fill (b ∷ Γ) (moved suc β) M c (SkeletonsFill-weak b Γ β g) m
    TermSkeleton-fill Γ β (lambda M) (base c) g m = absurd m
    TermSkeleton-fill Γ β (root h S) (arrow b c) g m = absurd m
    TermSkeleton-fill Γ β (root (constant d) S) (base c) g (t, k, m) = (t, k, SpineSkeleton-fill Γ β S t (base c) g m)
    TermSkeleton-fill Γ β (root (variable i) S) (base c) g (t, k, m) = (t, k, SpineSkeleton-fill Γ β S t (base c) g m)
    TermSkeleton-fill Γ β (root (metavariable n) S) (base c) g (t, k, m) = TermSkeleton-fill_metavariable Γ n (β n) (fill_spine κ.metavariable_skeleton β S) c (g n) (subst (λ z. SpineSkeleton (as_head_skeletons κ) Γ (fill_spine κ.metavariable_skeleton β S) z (base c)) (sym (some_skeleton k)) (SpineSkeleton-fill Γ β S t (base c) g m))

    pub SpineSkeleton-fill : (Γ : List Skeleton) (β : ℕ → Option Term) (S : Spine) (t u : Skeleton) → SkeletonsFill Γ β → SpineSkeleton (as_head_skeletons κ) Γ S t u → SpineSkeleton (as_head_skeletons κ) Γ (fill_spine κ.metavariable_skeleton β S) t u
    SpineSkeleton-fill Γ β nil t u g m = m
    SpineSkeleton-fill Γ β (app M S) (arrow b c) u g (m, s) = (TermSkeleton-fill Γ β M b g m, SpineSkeleton-fill Γ β S c u g s)
    SpineSkeleton-fill Γ β (app M S) (base c) u g m = absurd m

  ImageSkeleton-fill : (Δ : List Skeleton) (β : ℕ → Option Term) (x : Image) (t : Skeleton) → SkeletonsFill Δ β → ImageSkeleton (as_head_skeletons κ) Δ x t → ImageSkeleton (as_head_skeletons κ) Δ (fill_image κ.metavariable_skeleton β x) t
  ImageSkeleton-fill Δ β (keep i) t g m = m
  ImageSkeleton-fill Δ β (put a N) t g (e, m) = (e, TermSkeleton-fill Δ β N a g m)

  -- what `reduce` is to do at a skeleton
  abbrev pub ReductionFills : Skeleton → Type 0
  ReductionFills a = (Δ : List Skeleton) (β : ℕ → Option Term) (N : Term) (S : Spine) (u : Skeleton) → SkeletonsFill Δ β → TermSkeleton (as_head_skeletons κ) Δ N a → SpineSkeleton (as_head_skeletons κ) Δ S a u → fill κ.metavariable_skeleton β (reduce a N S) ≡ reduce a (fill κ.metavariable_skeleton β N) (fill_spine κ.metavariable_skeleton β S)

  -- fillings before and after a substitution, and the substitution after filling
  pub record Filled (Γ Δ : List Skeleton) (β β' : ℕ → Option Term) (σ σ' : ℕ → Image) : Type 0 where
    pub by_skeletons : SubstitutionBySkeletons (as_head_skeletons κ) Γ Δ σ
    pub by_skeletons' : SubstitutionBySkeletons (as_head_skeletons κ) Γ Δ σ'
    pub fillings : SkeletonsFill Γ β
    pub fillings' : SkeletonsFill Δ β'
    pub images : (i : ℕ) → σ' i ≡ fill_image κ.metavariable_skeleton β' (σ i)
    pub values : (m : ℕ) → β' m ≡ substituted_option σ' (β m)

  images-lift : (β' : ℕ → Option Term) (σ σ' : ℕ → Image) → ((i : ℕ) → σ' i ≡ fill_image κ.metavariable_skeleton β' (σ i)) → (i : ℕ) → lift σ' i ≡ fill_image κ.metavariable_skeleton (moved suc β') (lift σ i)
  images-lift β' σ σ' e zero = refl
  images-lift β' σ σ' e (suc i) = ap (rename_image suc) (e i) ∙ go (σ i)
    where
      go : (x : Image) → rename_image suc (fill_image κ.metavariable_skeleton β' x) ≡ fill_image κ.metavariable_skeleton (moved suc β') (rename_image suc x)
      go (keep j) = refl
      go (put a N) = ap (put a) (fill_rename κ.metavariable_skeleton suc β' N)

  values-lift : (σ' : ℕ → Image) (x : Option Term) → rename_value suc (substituted_option σ' x) ≡ substituted_option (lift σ') (rename_value suc x)
  values-lift σ' None = refl
  values-lift σ' (Some N) = ap Some (sym (lifted_substitution_weakened reduce reduction_is_natural σ' N))

  pub Filled-lift : (b : Skeleton) (Γ Δ : List Skeleton) (β β' : ℕ → Option Term) (σ σ' : ℕ → Image) → Filled Γ Δ β β' σ σ' → Filled (b ∷ Γ) (b ∷ Δ) (moved suc β) (moved suc β') (lift σ) (lift σ')
  Filled-lift b Γ Δ β β' σ σ' w = record {
    by_skeletons = lift_by_skeletons (as_head_skeletons κ) b Γ Δ σ w.by_skeletons;
    by_skeletons' = lift_by_skeletons (as_head_skeletons κ) b Γ Δ σ' w.by_skeletons';
    fillings = SkeletonsFill-weak b Γ β w.fillings;
    fillings' = SkeletonsFill-weak b Δ β' w.fillings';
    images = images-lift β' σ σ' w.images;
    values = λ m. ap (rename_value suc) (w.values m) ∙ values-lift σ' (β m);
  }

  fill_plug : (Δ : List Skeleton) (β : ℕ → Option Term) (x : Image) (S : Spine) (t u : Skeleton) → OnPut ReductionFills x → SkeletonsFill Δ β → ImageSkeleton (as_head_skeletons κ) Δ x t → SpineSkeleton (as_head_skeletons κ) Δ S t u → fill κ.metavariable_skeleton β (apply_image reduce x S) ≡ apply_image reduce (fill_image κ.metavariable_skeleton β x) (fill_spine κ.metavariable_skeleton β S)
  fill_plug Δ β (keep i) S t u k g m s = refl
  fill_plug Δ β (put a N) S t u k g (e, m) s = k Δ β N S u g m (subst (λ z. SpineSkeleton (as_head_skeletons κ) Δ S z u) (sym e) s)

  substituted_put_in : (Γ Δ : List Skeleton) (σ' : ℕ → Image) (m : ℕ) (x : Option Term) (S : Spine) (u : Skeleton) → SubstitutionBySkeletons (as_head_skeletons κ) Γ Δ σ' → ValueHasSkeleton Γ x (κ.metavariable_skeleton m) → SpineSkeleton (as_head_skeletons κ) Γ S (κ.metavariable_skeleton m) u → substitute reduce σ' (fill_metavariable (κ.metavariable_skeleton m) m x S) ≡ fill_metavariable (κ.metavariable_skeleton m) m (substituted_option σ' x) (substitute_spine reduce σ' S)
  substituted_put_in Γ Δ σ' m None S u w g s = refl
  substituted_put_in Γ Δ σ' m (Some N) S u w g s = substitute_reduction (as_head_skeletons κ) Γ Δ σ' (κ.metavariable_skeleton m) N S u w g s

  mutual
    fill_substituted' : (Γ Δ : List Skeleton) (β β' : ℕ → Option Term) (σ σ' : ℕ → Image) (M : Term) (t : Skeleton) → Puts ReductionFills σ → Filled Γ Δ β β' σ σ' → TermSkeleton (as_head_skeletons κ) Γ M t → fill κ.metavariable_skeleton β' (substitute reduce σ M) ≡ substitute reduce σ' (fill κ.metavariable_skeleton β M)
    fill_substituted' Γ Δ β β' σ σ' (lambda M) (arrow b c) k w m = ap lambda (fill_substituted' (b ∷ Γ) (b ∷ Δ) (moved suc β) (moved suc β') (lift σ) (lift σ') M c (Puts-lift ReductionFills σ k) (Filled-lift b Γ Δ β β' σ σ' w) m)
    fill_substituted' Γ Δ β β' σ σ' (lambda M) (base c) k w m = absurd m
    fill_substituted' Γ Δ β β' σ σ' (root h S) (arrow b c) k w m = absurd m
    fill_substituted' Γ Δ β β' σ σ' (root (constant d) S) (base c) k w (t, g, m) = ap (root (constant d)) (fill_substituted_spine' Γ Δ β β' σ σ' S t (base c) k w m)
    fill_substituted' Γ Δ β β' σ σ' (root (variable i) S) (base c) k w (t, g, m) =
        fill_plug Δ β' (σ i) (substitute_spine reduce σ S) t (base c) (k i) w.fillings' (w.by_skeletons i t g) (substitution_keeps_spine_skeletons (as_head_skeletons κ) Γ Δ σ S t (base c) w.by_skeletons m)
        ∙ ap₂ (apply_image reduce) (sym (w.images i)) (fill_substituted_spine' Γ Δ β β' σ σ' S t (base c) k w m)
    fill_substituted' Γ Δ β β' σ σ' (root (metavariable n) S) (base c) k w (t, g, m) =
        let m' : SpineSkeleton (as_head_skeletons κ) Γ S (κ.metavariable_skeleton n) (base c) = subst (λ z. SpineSkeleton (as_head_skeletons κ) Γ S z (base c)) (sym (some_skeleton g)) m in
        ap₂ (fill_metavariable (κ.metavariable_skeleton n) n) (w.values n) (fill_substituted_spine' Γ Δ β β' σ σ' S t (base c) k w m)
        ∙ sym (substituted_put_in Γ Δ σ' n (β n) (fill_spine κ.metavariable_skeleton β S) (base c) w.by_skeletons' (w.fillings n) (SpineSkeleton-fill Γ β S (κ.metavariable_skeleton n) (base c) w.fillings m'))

    fill_substituted_spine' : (Γ Δ : List Skeleton) (β β' : ℕ → Option Term) (σ σ' : ℕ → Image) (S : Spine) (t u : Skeleton) → Puts ReductionFills σ → Filled Γ Δ β β' σ σ' → SpineSkeleton (as_head_skeletons κ) Γ S t u → fill_spine κ.metavariable_skeleton β' (substitute_spine reduce σ S) ≡ substitute_spine reduce σ' (fill_spine κ.metavariable_skeleton β S)
    fill_substituted_spine' Γ Δ β β' σ σ' nil t u k w m = refl
    fill_substituted_spine' Γ Δ β β' σ σ' (app M S) (arrow b c) u k w (m, s) = ap₂ app (fill_substituted' Γ Δ β β' σ σ' M b k w m) (fill_substituted_spine' Γ Δ β β' σ σ' S c u k w s)
    fill_substituted_spine' Γ Δ β β' σ σ' (app M S) (base c) u k w m = absurd m

  -- filling and the substitution for the newest variable
  weak_option : (a : Skeleton) (N : Term) (x : Option Term) → x ≡ substituted_option (single a N) (rename_value suc x)
  weak_option a N None = refl
  weak_option a N (Some M) = ap Some (sym (substitute_weakened reduce a N M))

  pub Filled-single : (a : Skeleton) (Γ : List Skeleton) (β : ℕ → Option Term) (N : Term) → SkeletonsFill Γ β → TermSkeleton (as_head_skeletons κ) Γ N a → Filled (a ∷ Γ) Γ (moved suc β) β (single a N) (single a (fill κ.metavariable_skeleton β N))
  Filled-single a Γ β N g n = record {
    by_skeletons = single_by_skeletons (as_head_skeletons κ) a Γ N n;
    by_skeletons' = single_by_skeletons (as_head_skeletons κ) a Γ (fill κ.metavariable_skeleton β N) (TermSkeleton-fill Γ β N a g n);
    fillings = SkeletonsFill-weak a Γ β g;
    fillings' = g;
    images = go;
    values = λ m. weak_option a (fill κ.metavariable_skeleton β N) (β m);
  }
    where
      go : (i : ℕ) → single a (fill κ.metavariable_skeleton β N) i ≡ fill_image κ.metavariable_skeleton β (single a N i)
      go zero = refl
      go (suc i) = refl

  pub reduced_fill : (a : Skeleton) → ReductionFills a
  reduced_fill (base c) Δ β N S u g n s = refl
  reduced_fill (arrow a b) Δ β (root h T) S u g n s = absurd n
  reduced_fill (arrow a b) Δ β (lambda M) nil u g n s = refl
  reduced_fill (arrow a b) Δ β (lambda M) (app N S) u g n (m, s) =
      ap (fill κ.metavariable_skeleton β) (reduction_beta a b M N S)
      ∙ reduced_fill b Δ β (substitute reduce (single a N) M) S u g (substitution_keeps_skeletons (as_head_skeletons κ) (a ∷ Δ) Δ (single a N) M b (single_by_skeletons (as_head_skeletons κ) a Δ N m) n) s
      ∙ ap (λ z. reduce b z (fill_spine κ.metavariable_skeleton β S)) (fill_substituted' (a ∷ Δ) Δ (moved suc β) β (single a N) (single a (fill κ.metavariable_skeleton β N)) M b (Puts-single ReductionFills a N (reduced_fill a)) (Filled-single a Δ β N g m) n)
      ∙ sym (reduction_beta a b (fill κ.metavariable_skeleton (moved suc β) M) (fill κ.metavariable_skeleton β N) (fill_spine κ.metavariable_skeleton β S))

  pub fill_substituted : (Γ Δ : List Skeleton) (β β' : ℕ → Option Term) (σ σ' : ℕ → Image) (M : Term) (t : Skeleton) → Filled Γ Δ β β' σ σ' → TermSkeleton (as_head_skeletons κ) Γ M t → fill κ.metavariable_skeleton β' (substitute reduce σ M) ≡ substitute reduce σ' (fill κ.metavariable_skeleton β M)
  fill_substituted Γ Δ β β' σ σ' M t = fill_substituted' Γ Δ β β' σ σ' M t (λ i. OnPut-all ReductionFills reduced_fill (σ i))

  pub fill_substituted_type : (φ : ℕ → Option Skeleton) (Γ Δ : List Skeleton) (β β' : ℕ → Option Term) (σ σ' : ℕ → Image) (A : LfType) → Filled Γ Δ β β' σ σ' → TypeBySkeletons φ (as_head_skeletons κ) Γ A → fill_type κ.metavariable_skeleton β' (substitute_type reduce σ A) ≡ substitute_type reduce σ' (fill_type κ.metavariable_skeleton β A)
  fill_substituted_type φ Γ Δ β β' σ σ' (pi A B) w m = ap₂ pi (fill_substituted_type φ Γ Δ β β' σ σ' A w m.0) (fill_substituted_type φ (skeleton A ∷ Γ) (skeleton A ∷ Δ) (moved suc β) (moved suc β') (lift σ) (lift σ') B (Filled-lift (skeleton A) Γ Δ β β' σ σ' w) m.1)
  fill_substituted_type φ Γ Δ β β' σ σ' (atom c S) w (t, e, m) = ap (atom c) (fill_substituted_spine' Γ Δ β β' σ σ' S t (base c) (λ i. OnPut-all ReductionFills reduced_fill (σ i)) w m)

  pub TypeBySkeletons-fill : (φ : ℕ → Option Skeleton) (Γ : List Skeleton) (β : ℕ → Option Term) (A : LfType) → SkeletonsFill Γ β → TypeBySkeletons φ (as_head_skeletons κ) Γ A → TypeBySkeletons φ (as_head_skeletons κ) Γ (fill_type κ.metavariable_skeleton β A)
  TypeBySkeletons-fill φ Γ β (pi A B) g (a, b) = (TypeBySkeletons-fill φ Γ β A g a, subst (λ t. TypeBySkeletons φ (as_head_skeletons κ) (t ∷ Γ) (fill_type κ.metavariable_skeleton (moved suc β) B)) (sym (skeleton_fill κ.metavariable_skeleton β A)) (TypeBySkeletons-fill φ (skeleton A ∷ Γ) (moved suc β) B (SkeletonsFill-weak (skeleton A) Γ β g) b))
  TypeBySkeletons-fill φ Γ β (atom c S) g (t, e, s) = (t, e, SpineSkeleton-fill Γ β S t (base c) g s)

  -- THE law: an instance of a type, filled
  pub fill_instance : (φ : ℕ → Option Skeleton) (Γ : List Skeleton) (β : ℕ → Option Term) (A : LfType) (M : Term) (B : LfType) → SkeletonsFill Γ β → TermSkeleton (as_head_skeletons κ) Γ M (skeleton A) → TypeBySkeletons φ (as_head_skeletons κ) (skeleton A ∷ Γ) B → fill_type κ.metavariable_skeleton β (instantiate_type A M B) ≡ instantiate_type (fill_type κ.metavariable_skeleton β A) (fill κ.metavariable_skeleton β M) (fill_type κ.metavariable_skeleton (moved suc β) B)
  fill_instance φ Γ β A M B g m b =
      fill_substituted_type φ (skeleton A ∷ Γ) Γ (moved suc β) β (single (skeleton A) M) (single (skeleton A) (fill κ.metavariable_skeleton β M)) B (Filled-single (skeleton A) Γ β M g m) b
      ∙ ap (λ t. substitute_type reduce (single t (fill κ.metavariable_skeleton β M)) (fill_type κ.metavariable_skeleton (moved suc β) B)) (sym (skeleton_fill κ.metavariable_skeleton β A))
