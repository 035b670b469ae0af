-- The rules of hereditary substitution determine the function, and hold of it on skeleton-typed terms.
use Rattle.std.proofs.Common.{◌≡◌, ℕ, List, ◌∷◌, Option, refl, sym, ap, ap₂, ◌∙◌, subst}
use Rattle.lf.specs.Syntax.{constant, variable, metavariable, Term, Spine, lambda, root, nil, app, LfType, Kind, pi, atom, kind_pi, star, Skeleton, base, arrow, skeleton}
use Rattle.lf.specs.Substitution.{Image, keep, put, lift, single, apply_image, substitute, substitute_spine, substitute_type, substitute_kind, reduce}
use Rattle.lf.specs.SkeletonTyping.{HeadSkeletons, TermSkeleton, SpineSkeleton, TypeBySkeletons, KindBySkeletons, ImageSkeleton, SubstitutionBySkeletons}
use Rattle.lf.specs.Rules.{Substitutes, SubstitutesSpine, Reduces, SubstitutesType, SubstitutesKind, inside_pi, at_atom, inside_kind_pi, at_star, inside_lambda, at_constant, at_metavariable, at_keep, at_put, none, more, stop, beta}
use Rattle.lf.proofs.Renaming.{reduction_beta, OnPut, Puts, Puts-lift, Puts-single, OnPut-all}
use Rattle.lf.proofs.SkeletonTyping.{substitution_keeps_skeletons, substitution_keeps_spine_skeletons, lift_by_skeletons, single_by_skeletons}

-- what the rules give is what the function gives, with no premise
mutual
  pub rules_agree : {σ : ℕ → Image} {M R : Term} → Substitutes σ M R → R ≡ substitute reduce σ M
  rules_agree (inside_lambda d) = ap lambda (rules_agree d)
  rules_agree (at_constant {c = c} d) = ap (root (constant c)) (rules_agree_spine d)
  rules_agree (at_metavariable {m = m} d) = ap (root (metavariable m)) (rules_agree_spine d)
  rules_agree (at_keep {σ = σ} {j = j} {S = S} e d) = ap (root (variable j)) (rules_agree_spine d) ∙ ap (λ x. apply_image reduce x (substitute_spine reduce σ S)) (sym e)
  rules_agree (at_put {σ = σ} {a = a} {N = N} {S = S} e d r) = rules_agree_reduction r ∙ ap (reduce a N) (rules_agree_spine d) ∙ ap (λ x. apply_image reduce x (substitute_spine reduce σ S)) (sym e)

  pub rules_agree_spine : {σ : ℕ → Image} {S R : Spine} → SubstitutesSpine σ S R → R ≡ substitute_spine reduce σ S
  rules_agree_spine none = refl
  rules_agree_spine (more d f) = ap₂ app (rules_agree d) (rules_agree_spine f)

  pub rules_agree_reduction : {a : Skeleton} {N R : Term} {S : Spine} → Reduces a N S R → R ≡ reduce a N S
  rules_agree_reduction stop = refl
  rules_agree_reduction (beta {a = a} {b = b} {M = M} {N = N} {S = S} d r) = rules_agree_reduction r ∙ ap (λ x. reduce b x S) (rules_agree d) ∙ sym (reduction_beta a b M N S)

pub rules_agree_type : {σ : ℕ → Image} {A B : LfType} → SubstitutesType σ A B → B ≡ substitute_type reduce σ A
rules_agree_type (inside_pi d f) = ap₂ pi (rules_agree_type d) (rules_agree_type f)
rules_agree_type (at_atom {a = a} d) = ap (atom a) (rules_agree_spine d)

pub rules_agree_kind : {σ : ℕ → Image} {K L : Kind} → SubstitutesKind σ K L → L ≡ substitute_kind reduce σ K
rules_agree_kind (inside_kind_pi d f) = ap₂ kind_pi (rules_agree_type d) (rules_agree_kind f)
rules_agree_kind at_star = refl

pub rules_deterministic : {σ : ℕ → Image} {M R R' : Term} → Substitutes σ M R → Substitutes σ M R' → R ≡ R'
rules_deterministic d d' = rules_agree d ∙ sym (rules_agree d')

-- and total on skeleton-typed terms
module _ (κ : HeadSkeletons) where
  abbrev ReductionTotal : Skeleton → Type 0
  ReductionTotal a = (Δ : List Skeleton) (N : Term) (S : Spine) (c : ℕ) → TermSkeleton κ Δ N a → SpineSkeleton κ Δ S a (base c) → Reduces a N S (reduce a N S)

  plug_total : (Δ : List Skeleton) (σ : ℕ → Image) (i : ℕ) (S S' : Spine) (t : Skeleton) (c : ℕ) (x : Image) → OnPut ReductionTotal x → σ i ≡ x → ImageSkeleton κ Δ x t → SubstitutesSpine σ S S' → SpineSkeleton κ Δ S' t (base c) → Substitutes σ (root (variable i) S) (apply_image reduce x S')
  plug_total Δ σ i S S' t c (keep j) k e g d s = at_keep e d
  plug_total Δ σ i S S' t c (put a N) k e g d s = at_put e d (k Δ N S' c g.1 (subst (λ w. SpineSkeleton κ Δ S' w (base c)) (sym g.0) s))

  mutual
    Substitutes-total' : (Γ Δ : List Skeleton) (σ : ℕ → Image) (M : Term) (t : Skeleton) → Puts ReductionTotal σ → SubstitutionBySkeletons κ Γ Δ σ → TermSkeleton κ Γ M t → Substitutes σ M (substitute reduce σ M)
    Substitutes-total' Γ Δ σ (lambda M) (arrow b c) k g m = inside_lambda (Substitutes-total' (b ∷ Γ) (b ∷ Δ) (lift σ) M c (Puts-lift ReductionTotal σ k) (lift_by_skeletons κ b Γ Δ σ g) m)
    Substitutes-total' Γ Δ σ (lambda M) (base c) k g m = absurd m
    Substitutes-total' Γ Δ σ (root h S) (arrow b c) k g m = absurd m
    Substitutes-total' Γ Δ σ (root (constant d) S) (base c) k g (t, e, m) = at_constant (SubstitutesSpine-total' Γ Δ σ S t (base c) k g m)
    Substitutes-total' Γ Δ σ (root (metavariable d) S) (base c) k g (t, e, m) = at_metavariable (SubstitutesSpine-total' Γ Δ σ S t (base c) k g m)
    Substitutes-total' Γ Δ σ (root (variable i) S) (base c) k g (t, e, m) = plug_total Δ σ i S (substitute_spine reduce σ S) t c (σ i) (k i) refl (g i t e) (SubstitutesSpine-total' Γ Δ σ S t (base c) k g m) (substitution_keeps_spine_skeletons κ Γ Δ σ S t (base c) g m)

    SubstitutesSpine-total' : (Γ Δ : List Skeleton) (σ : ℕ → Image) (S : Spine) (t u : Skeleton) → Puts ReductionTotal σ → SubstitutionBySkeletons κ Γ Δ σ → SpineSkeleton κ Γ S t u → SubstitutesSpine σ S (substitute_spine reduce σ S)
    SubstitutesSpine-total' Γ Δ σ nil t u k g m = none
    SubstitutesSpine-total' Γ Δ σ (app M S) (arrow b c) u k g m = more (Substitutes-total' Γ Δ σ M b k g m.0) (SubstitutesSpine-total' Γ Δ σ S c u k g m.1)
    SubstitutesSpine-total' Γ Δ σ (app M S) (base c) u k g m = absurd m

  reduce_total : (a : Skeleton) → ReductionTotal a
  reduce_total (base d) Δ (root h T) nil c n s = stop
  reduce_total (base d) Δ (lambda N) S c n s = absurd n
  reduce_total (base d) Δ (root h T) (app M S) c n s = absurd s
  reduce_total (arrow a b) Δ (root h T) S c n s = absurd n
  reduce_total (arrow a b) Δ (lambda M) nil c n s = absurd (cc)
  reduce_total (arrow a b) Δ (lambda M) (app N S) c n (m, s) =
      let M' = substitute reduce (single a N) M in
      subst (Reduces (arrow a b) (lambda M) (app N S)) (sym (reduction_beta a b M N S)) (beta (Substitutes-total' (a ∷ Δ) Δ (single a N) M b (Puts-single ReductionTotal a N (reduce_total a)) (single_by_skeletons κ a Δ N m) n) (reduce_total b Δ M' S c (substitution_keeps_skeletons κ (a ∷ Δ) Δ (single a N) M b (single_by_skeletons κ a Δ N m) n) s))

  pub rules_total : (Γ Δ : List Skeleton) (σ : ℕ → Image) (M : Term) (t : Skeleton) → SubstitutionBySkeletons κ Γ Δ σ → TermSkeleton κ Γ M t → Substitutes σ M (substitute reduce σ M)
  rules_total Γ Δ σ M t = Substitutes-total' Γ Δ σ M t (λ i. OnPut-all ReductionTotal reduce_total (σ i))

  pub rules_total_spine : (Γ Δ : List Skeleton) (σ : ℕ → Image) (S : Spine) (t u : Skeleton) → SubstitutionBySkeletons κ Γ Δ σ → SpineSkeleton κ Γ S t u → SubstitutesSpine σ S (substitute_spine reduce σ S)
  rules_total_spine Γ Δ σ S t u = SubstitutesSpine-total' Γ Δ σ S t u (λ i. OnPut-all ReductionTotal reduce_total (σ i))

  pub rules_total_reduction : (a : Skeleton) (Δ : List Skeleton) (N : Term) (S : Spine) (c : ℕ) → TermSkeleton κ Δ N a → SpineSkeleton κ Δ S a (base c) → Reduces a N S (reduce a N S)
  rules_total_reduction = reduce_total

  pub rules_total_type : (φ : ℕ → Option Skeleton) (Γ Δ : List Skeleton) (σ : ℕ → Image) (A : LfType) → SubstitutionBySkeletons κ Γ Δ σ → TypeBySkeletons φ κ Γ A → SubstitutesType σ A (substitute_type reduce σ A)
  rules_total_type φ Γ Δ σ (pi A B) w (a, b) = inside_pi (rules_total_type φ Γ Δ σ A w a) (rules_total_type φ (skeleton A ∷ Γ) (skeleton A ∷ Δ) (lift σ) B (lift_by_skeletons κ (skeleton A) Γ Δ σ w) b)
  rules_total_type φ Γ Δ σ (atom a S) w (t, e, s) = at_atom (rules_total_spine Γ Δ σ S t (base a) w s)

  pub rules_total_kind : (φ : ℕ → Option Skeleton) (Γ Δ : List Skeleton) (σ : ℕ → Image) (K : Kind) → SubstitutionBySkeletons κ Γ Δ σ → KindBySkeletons φ κ Γ K → SubstitutesKind σ K (substitute_kind reduce σ K)
  rules_total_kind φ Γ Δ σ (kind_pi A K) w (a, k) = inside_kind_pi (rules_total_type φ Γ Δ σ A w a) (rules_total_kind φ (skeleton A ∷ Γ) (skeleton A ∷ Δ) (lift σ) K (lift_by_skeletons κ (skeleton A) Γ Δ σ w) k)
  rules_total_kind φ Γ Δ σ star w k = at_star
