-- A term with metavariables for its variables, filled with their values, is the term with these put in.
use Rattle.std.proofs.Common.{◌≡◌, ℕ, zero, suc, List, ◌∷◌, inl, inr, refl, sym, ap, ap₂, ◌∙◌}
use Rattle.std.specs.Prelude.{Option, Some, ◌⊎◌}
use Rattle.lf.specs.Syntax.{Head, constant, variable, metavariable, Term, Spine, lambda, root, nil, app, LfType, pi, atom, Skeleton, base, arrow, skeleton, rename_head}
use Rattle.lf.specs.Substitution.{Image, keep, put, rename_image, apply_image, lift, substitute, substitute_spine, substitute_type, reduce}
use Rattle.lf.specs.SkeletonTyping.{SkeletonAt, TermSkeleton, SpineSkeleton, TypeBySkeletons, SubstitutionBySkeletons}
use Rattle.lf.specs.Skeletons.{constant_skeletons}
use Rattle.lf.specs.Typing.{Signature}
use Rattle.lf.proofs.Eta.{rename_eta_expand, reduction_eta}
use Rattle.lf.proofs.SkeletonTyping.{lift_by_skeletons, substitution_keeps_spine_skeletons}
use Rattle.lf_unification.specs.Filling.{fill, fill_spine, fill_type, fill_metavariable, moved, rename_value}
use Rattle.lf_cases.specs.Case.{as_term}
use Rattle.lf_coverage.specs.SplitStore.{open_variable, open_term, open_spine, open_type}

-- a head filled, applied to what is filled
abbrev filled_head : (ℕ → Skeleton) → (ℕ → Option Term) → Head → Spine → Term
filled_head μ β (constant c) T = root (constant c) T
filled_head μ β (variable i) T = root (variable i) T
filled_head μ β (metavariable m) T = fill_metavariable (μ m) m (β m) T

fill_root : (μ : ℕ → Skeleton) (β : ℕ → Option Term) (h : Head) (S : Spine) → fill μ β (root h S) ≡ filled_head μ β h (fill_spine μ β S)
fill_root μ β (constant c) S = refl
fill_root μ β (variable i) S = refl
fill_root μ β (metavariable m) S = refl

-- an image that is a term has this skeleton
abbrev pub FitsImage : Skeleton → Image → Type 0
FitsImage t (keep i) = Unit {0}
FitsImage t (put a N) = a ≡ t

-- The head is a metavariable with the image's term as its value, or the variable that the image is.
abbrev pub Stands : (ℕ → Skeleton) → (ℕ → Option Term) → Skeleton → Head → Image → Type 0
Stands μ β t h x = ((m : ℕ) × (h ≡ metavariable m) × (μ m ≡ t) × (β m ≡ Some (as_term t x)) × FitsImage t x) ⊎ ((v : ℕ) × (h ≡ variable v) × (x ≡ keep v))

term_moved : (t : Skeleton) (x : Image) → Rattle.lf.specs.Syntax.rename suc (as_term t x) ≡ as_term t (rename_image suc x)
term_moved t (keep i) = rename_eta_expand suc t (variable i) nil
term_moved t (put a N) = refl

fits_moved : (t : Skeleton) (x : Image) → FitsImage t x → FitsImage t (rename_image suc x)
fits_moved t (keep i) f = tt
fits_moved t (put a N) f = f

stands_moved : (μ : ℕ → Skeleton) (β : ℕ → Option Term) (t : Skeleton) (h : Head) (x : Image) → Stands μ β t h x → Stands μ (moved suc β) t (rename_head suc h) (rename_image suc x)
stands_moved μ β t h x (inl (m, e, s, b, f)) = inl (m, ap (rename_head suc) e, s, ap (rename_value suc) b ∙ ap Some (term_moved t x), fits_moved t x f)
stands_moved μ β t h x (inr (v, e, q)) = inr (suc v, ap (rename_head suc) e, ap (rename_image suc) q)

module _ (Σ : Signature) (μ : ℕ → Skeleton) where
  stands_applied : (Δ : List Skeleton) (β : ℕ → Option Term) (t : Skeleton) (h : Head) (x : Image) (T : Spine) (c : ℕ) → Stands μ β t h x → SpineSkeleton (constant_skeletons Σ) Δ T t (base c) → filled_head μ β h T ≡ apply_image reduce x T
  stands_applied Δ β t h x T c (inr (v, e, q)) s = ap (λ k. filled_head μ β k T) e ∙ ap (λ y. apply_image reduce y T) (sym q)
  stands_applied Δ β t h x T c (inl (m, e, k, b, f)) s = ap (λ g. filled_head μ β g T) e ∙ ap₂ (λ a y. fill_metavariable a m y T) k b ∙ by x f
    where
      by : (x : Image) → FitsImage t x → reduce t (as_term t x) T ≡ apply_image reduce x T
      by (keep v) f = reduction_eta (constant_skeletons Σ) t Δ (variable v) T c s
      by (put a N) f = ap (λ b. reduce b N T) (sym f)

  -- each variable of the context stands for its image
  abbrev pub AllStand : ℕ → List Skeleton → (ℕ → Image) → (ℕ → Option Term) → Type 0
  AllStand k Γ σ β = (i : ℕ) (t : Skeleton) → SkeletonAt Γ i t → Stands μ β t (open_variable k i) (σ i)

  pub all_lifted : (k : ℕ) (Γ : List Skeleton) (a : Skeleton) (σ : ℕ → Image) (β : ℕ → Option Term) → AllStand k Γ σ β → AllStand (suc k) (a ∷ Γ) (lift σ) (moved suc β)
  all_lifted k Γ a σ β h zero t g = inr (zero, refl, refl)
  all_lifted k Γ a σ β h (suc i) t g = stands_moved μ β t (open_variable k i) (σ i) (h i t g)

  mutual
    pub fill_open : (k : ℕ) (Γ Δ : List Skeleton) (σ : ℕ → Image) (β : ℕ → Option Term) → AllStand k Γ σ β → SubstitutionBySkeletons (constant_skeletons Σ) Γ Δ σ → (M : Term) (t : Skeleton) → TermSkeleton (constant_skeletons Σ) Γ M t → fill μ β (open_term k M) ≡ substitute reduce σ M
    fill_open k Γ Δ σ β h s (lambda M) (arrow a b) m = ap lambda (fill_open (suc k) (a ∷ Γ) (a ∷ Δ) (lift σ) (moved suc β) (all_lifted k Γ a σ β h) (lift_by_skeletons (constant_skeletons Σ) a Γ Δ σ s) M b m)
    fill_open k Γ Δ σ β h s (lambda M) (base c) m = absurd m
    fill_open k Γ Δ σ β h s (root g S) (arrow a b) m = absurd m
    fill_open k Γ Δ σ β h s (root (constant c) S) (base d) (t, g, m) = ap (root (constant c)) (fill_open_spine k Γ Δ σ β h s S t (base d) m)
    fill_open k Γ Δ σ β h s (root (metavariable c) S) (base d) (t, g, m) = absurd cc
    fill_open k Γ Δ σ β h s (root (variable i) S) (base d) (t, g, m) =
        fill_root μ β (open_variable k i) (open_spine k S)
        ∙ ap (filled_head μ β (open_variable k i)) (fill_open_spine k Γ Δ σ β h s S t (base d) m)
        ∙ stands_applied Δ β t (open_variable k i) (σ i) (substitute_spine reduce σ S) d (h i t g) (substitution_keeps_spine_skeletons (constant_skeletons Σ) Γ Δ σ S t (base d) s m)

    pub fill_open_spine : (k : ℕ) (Γ Δ : List Skeleton) (σ : ℕ → Image) (β : ℕ → Option Term) → AllStand k Γ σ β → SubstitutionBySkeletons (constant_skeletons Σ) Γ Δ σ → (S : Spine) (t u : Skeleton) → SpineSkeleton (constant_skeletons Σ) Γ S t u → fill_spine μ β (open_spine k S) ≡ substitute_spine reduce σ S
    fill_open_spine k Γ Δ σ β h s nil t u m = refl
    fill_open_spine k Γ Δ σ β h s (app M S) (arrow a b) u (m, n) = ap₂ app (fill_open k Γ Δ σ β h s M a m) (fill_open_spine k Γ Δ σ β h s S b u n)
    fill_open_spine k Γ Δ σ β h s (app M S) (base c) u m = absurd m

  pub fill_open_type : (φ : ℕ → Option Skeleton) (k : ℕ) (Γ Δ : List Skeleton) (σ : ℕ → Image) (β : ℕ → Option Term) → AllStand k Γ σ β → SubstitutionBySkeletons (constant_skeletons Σ) Γ Δ σ → (A : LfType) → TypeBySkeletons φ (constant_skeletons Σ) Γ A → fill_type μ β (open_type k A) ≡ substitute_type reduce σ A
  fill_open_type φ k Γ Δ σ β h s (pi A B) (a, b) = ap₂ pi (fill_open_type φ k Γ Δ σ β h s A a) (fill_open_type φ (suc k) (skeleton A ∷ Γ) (skeleton A ∷ Δ) (lift σ) (moved suc β) (all_lifted k Γ (skeleton A) σ β h) (lift_by_skeletons (constant_skeletons Σ) (skeleton A) Γ Δ σ s) B b)
  fill_open_type φ k Γ Δ σ β h s (atom a S) (t, e, m) = ap (atom a) (fill_open_spine k Γ Δ σ β h s S t (base a) m)
