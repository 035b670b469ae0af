-- What does not mention a metavariable does not depend on it.
use Rattle.std.proofs.Common.{◌≡◌, ℕ, zero, suc, List, ◌∷◌, Option, Some, ◌⊎◌, inl, inr, refl, sym, ap, ap₂, ◌∙◌}
use Rattle.lf.specs.SkeletonTyping.{SpineSkeleton, TermSkeleton, TypeBySkeletons}
use Rattle.lf.specs.Syntax.{Skeleton, Spine, Term, LfType, app, arrow, atom, base, constant, lambda, metavariable, nil, pi, root, skeleton, variable}
use Rattle.lf_unification.specs.Filling.{fill, fill_spine, fill_type, moved, fill_metavariable, rename_value}
use Rattle.lf_unification.specs.OpenTyping.{MetavariablesIn, MetavariablesInSpine, MetavariablesInType, set_at}
use Rattle.lf_unification.specs.Skeletons.{TotalSkeletons, as_head_skeletons}

pub set_here : {A : Type 0} (n : ℕ) (x : A) (f : ℕ → A) → set_at n x f n ≡ x
set_here zero x f = refl
set_here (suc n) x f = set_here n x (λ k. f (suc k))

pub set_cases : {A : Type 0} (n : ℕ) (x : A) (f : ℕ → A) (m : ℕ) → (m ≡ n) ⊎ (set_at n x f m ≡ f m)
set_cases zero x f zero = inl refl
set_cases zero x f (suc m) = inr refl
set_cases (suc n) x f zero = inr refl
set_cases (suc n) x f (suc m) = go (set_cases n x (λ k. f (suc k)) m)
  where
    go : (m ≡ n) ⊎ (set_at n x (λ k. f (suc k)) m ≡ f (suc m)) → (suc m ≡ suc n) ⊎ (set_at n x (λ k. f (suc k)) m ≡ f (suc m))
    go (inl e) = inl (ap suc e)
    go (inr e) = inr e

module _ (V : ℕ → Type 0) (μ μ' : ℕ → Skeleton) (same : (m : ℕ) → V m → μ m ≡ μ' m) where
  abbrev pub AgreeOn : (ℕ → Option Term) → (ℕ → Option Term) → Type 0
  AgreeOn β β' = (m : ℕ) → V m → β m ≡ β' m

  mutual
    pub fill_agree : (β β' : ℕ → Option Term) (M : Term) → AgreeOn β β' → MetavariablesIn V M → fill μ β M ≡ fill μ' β' M
    fill_agree β β' (lambda M) h i = ap lambda (fill_agree (moved suc β) (moved suc β') M (λ m v. ap (rename_value suc) (h m v)) i)
    fill_agree β β' (root (constant c) S) h i = ap (root (constant c)) (fill_agree_spine β β' S h i)
    fill_agree β β' (root (variable c) S) h i = ap (root (variable c)) (fill_agree_spine β β' S h i)
    fill_agree β β' (root (metavariable m) S) h (v, i) = ap (λ a. fill_metavariable a m (β m) (fill_spine μ β S)) (same m v) ∙ ap₂ (fill_metavariable (μ' m) m) (h m v) (fill_agree_spine β β' S h i)

    pub fill_agree_spine : (β β' : ℕ → Option Term) (S : Spine) → AgreeOn β β' → MetavariablesInSpine V S → fill_spine μ β S ≡ fill_spine μ' β' S
    fill_agree_spine β β' nil h i = refl
    fill_agree_spine β β' (app M S) h (i, j) = ap₂ app (fill_agree β β' M h i) (fill_agree_spine β β' S h j)

  pub fill_agree_type : (β β' : ℕ → Option Term) (A : LfType) → AgreeOn β β' → MetavariablesInType V A → fill_type μ β A ≡ fill_type μ' β' A
  fill_agree_type β β' (pi A B) h (i, j) = ap₂ pi (fill_agree_type β β' A h i) (fill_agree_type (moved suc β) (moved suc β') B (λ m v. ap (rename_value suc) (h m v)) j)
  fill_agree_type β β' (atom a S) h i = ap (atom a) (fill_agree_spine β β' S h i)

  module _ (constant_skeleton : ℕ → Option Skeleton) where
    abbrev κ : TotalSkeletons
    κ = record { constant_skeleton = constant_skeleton; metavariable_skeleton = μ }

    abbrev κ' : TotalSkeletons
    κ' = record { constant_skeleton = constant_skeleton; metavariable_skeleton = μ' }

    mutual
      pub TermSkeleton-agree : (Γ : List Skeleton) (M : Term) (t : Skeleton) → MetavariablesIn V M → TermSkeleton (as_head_skeletons κ) Γ M t → TermSkeleton (as_head_skeletons κ') Γ M t
      TermSkeleton-agree Γ (lambda M) (arrow a b) i m = TermSkeleton-agree (a ∷ Γ) M b i m
      TermSkeleton-agree Γ (lambda M) (base c) i m = m
      TermSkeleton-agree Γ (root h S) (arrow a b) i m = m
      TermSkeleton-agree Γ (root (constant d) S) (base c) i (t, g, m) = (t, g, SpineSkeleton-agree Γ S t (base c) i m)
      TermSkeleton-agree Γ (root (variable d) S) (base c) i (t, g, m) = (t, g, SpineSkeleton-agree Γ S t (base c) i m)
      TermSkeleton-agree Γ (root (metavariable d) S) (base c) (v, i) (t, g, m) = (t, ap Some (sym (same d v)) ∙ g, SpineSkeleton-agree Γ S t (base c) i m)

      pub SpineSkeleton-agree : (Γ : List Skeleton) (S : Spine) (t u : Skeleton) → MetavariablesInSpine V S → SpineSkeleton (as_head_skeletons κ) Γ S t u → SpineSkeleton (as_head_skeletons κ') Γ S t u
      SpineSkeleton-agree Γ nil t u i m = m
      SpineSkeleton-agree Γ (app M S) (arrow a b) u (i, j) (m, s) = (TermSkeleton-agree Γ M a i m, SpineSkeleton-agree Γ S b u j s)
      SpineSkeleton-agree Γ (app M S) (base c) u i m = m

    pub TypeBySkeletons-agree : (φ : ℕ → Option Skeleton) (Γ : List Skeleton) (A : LfType) → MetavariablesInType V A → TypeBySkeletons φ (as_head_skeletons κ) Γ A → TypeBySkeletons φ (as_head_skeletons κ') Γ A
    TypeBySkeletons-agree φ Γ (pi A B) (i, j) (a, b) = (TypeBySkeletons-agree φ Γ A i a, TypeBySkeletons-agree φ (skeleton A ∷ Γ) B j b)
    TypeBySkeletons-agree φ Γ (atom a S) i (t, e, s) = (t, e, SpineSkeleton-agree Γ S t (base a) i s)
