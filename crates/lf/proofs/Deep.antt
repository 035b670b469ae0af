-- Where a term above the limit is found, there is a derivation in which it stands: for code that stops at such a term.
use Rattle.std.proofs.Common.{◌≡◌, ℕ, ◌<◌, List, ◌∷◌, Option, ◌⊎◌, refl, sym, subst, inl, inr, arith}
use Rattle.lf.specs.Syntax.{constant, variable, metavariable, Head, Term, Spine, lambda, root, app, LfType, Kind, pi, atom, Skeleton, base, arrow, skeleton}
use Rattle.lf.specs.Substitution.{Image, keep, put, lift, single, substitute, substitute_spine, substitute_type, substitute_kind, reduce}
use Rattle.lf.specs.SkeletonTyping.{HeadSkeletons, TermSkeleton, SpineSkeleton, TypeBySkeletons, KindBySkeletons, ImageSkeleton, SubstitutionBySkeletons}
use Rattle.lf.specs.Depth.{depth, spine_depth, type_depth, kind_depth}
use Rattle.lf.specs.Rules.{Substitutes, SubstitutesSpine, Reduces, SubstitutesType, SubstitutesKind, inside_lambda, at_constant, at_metavariable, at_keep, at_put, none, more, stop, beta, inside_pi, at_atom, inside_kind_pi, at_star}
use Rattle.lf.specs.Deep.{PutsDeep, HasDeep, SpineHasDeep, ReductionHasDeep, TypeHasDeep, KindHasDeep, DeepSubstitution, DeepSpineSubstitution, DeepReduction, DeepTypeSubstitution, DeepKindSubstitution}
use Rattle.lf.proofs.Depth.{below_max}
use Rattle.lf.proofs.Rules.{rules_agree, rules_agree_spine, rules_total, rules_total_spine, rules_total_reduction, rules_total_type, rules_total_kind}
use Rattle.lf.proofs.SkeletonTyping.{lift_by_skeletons, single_by_skeletons, substitution_keeps_skeletons, substitution_keeps_spine_skeletons}

-- In any derivation: subject, result, terms put in.
pub subject_deep : (k : ℕ) {σ : ℕ → Image} {M R : Term} (d : Substitutes σ M R) → k < depth M → HasDeep k d
subject_deep k (inside_lambda d) h = inl h
subject_deep k (at_constant d) h = inl h
subject_deep k (at_metavariable d) h = inl h
subject_deep k (at_keep e d) h = inl h
subject_deep k (at_put e d r) h = inl h

pub result_deep : (k : ℕ) {σ : ℕ → Image} {M R : Term} (d : Substitutes σ M R) → k < depth R → HasDeep k d
result_deep k (inside_lambda d) h = inr (inl h)
result_deep k (at_constant d) h = inr (inl h)
result_deep k (at_metavariable d) h = inr (inl h)
result_deep k (at_keep e d) h = inr (inl h)
result_deep k (at_put e d r) h = inr (inl h)

pub put_deep : (k : ℕ) {σ : ℕ → Image} {M R : Term} (d : Substitutes σ M R) → PutsDeep k σ → HasDeep k d
put_deep k (inside_lambda d) h = inr (inr (inl h))
put_deep k (at_constant d) h = inr (inr (inl h))
put_deep k (at_metavariable d) h = inr (inr (inl h))
put_deep k (at_keep e d) h = inr (inr (inl h))
put_deep k (at_put e d r) h = inr (inr (inl h))

either : {A B C : Type 0} → A ⊎ B → (A → C) → (B → C) → C
either (inl a) f g = f a
either (inr b) f g = g b

pub spine_subject_deep : (k : ℕ) {σ : ℕ → Image} {S R : Spine} (d : SubstitutesSpine σ S R) → k < spine_depth S → SpineHasDeep k d
spine_subject_deep k none h = absurd (omega arith)
spine_subject_deep k (more {M = M} {S = S} d f) h = either (below_max k (depth M) (spine_depth S) h) (λ p. inl (subject_deep k d p)) (λ p. inr (spine_subject_deep k f p))

pub spine_result_deep : (k : ℕ) {σ : ℕ → Image} {S R : Spine} (d : SubstitutesSpine σ S R) → k < spine_depth R → SpineHasDeep k d
spine_result_deep k none h = absurd (omega arith)
spine_result_deep k (more {M' = M} {S' = S} d f) h = either (below_max k (depth M) (spine_depth S) h) (λ p. inl (result_deep k d p)) (λ p. inr (spine_result_deep k f p))

pub applied_deep : (k : ℕ) {a : Skeleton} {N R : Term} {S : Spine} (r : Reduces a N S R) → k < depth N → ReductionHasDeep k r
applied_deep k stop h = h
applied_deep k (beta d r) h = inl h

pub reduct_deep : (k : ℕ) {a : Skeleton} {N R : Term} {S : Spine} (r : Reduces a N S R) → k < depth R → ReductionHasDeep k r
reduct_deep k stop h = h
reduct_deep k (beta d r) h = inr (inr (inl h))

pub argument_deep : (k : ℕ) {a : Skeleton} {N R : Term} {S : Spine} (r : Reduces a N S R) → k < spine_depth S → ReductionHasDeep k r
argument_deep k stop h = absurd (omega arith)
argument_deep k (beta {N = N} {S = S} d r) h = either (below_max k (depth N) (spine_depth S) h) (λ p. inr (inl p)) (λ p. inr (inr (inr (inr (argument_deep k r p)))))

pub type_subject_deep : (k : ℕ) {σ : ℕ → Image} {A B : LfType} (d : SubstitutesType σ A B) → k < type_depth A → TypeHasDeep k d
type_subject_deep k (inside_pi d f) h = inl h
type_subject_deep k (at_atom d) h = inl h

pub type_result_deep : (k : ℕ) {σ : ℕ → Image} {A B : LfType} (d : SubstitutesType σ A B) → k < type_depth B → TypeHasDeep k d
type_result_deep k (inside_pi d f) h = inr (inl h)
type_result_deep k (at_atom d) h = inr (inl h)

pub type_put_deep : (k : ℕ) {σ : ℕ → Image} {A B : LfType} (d : SubstitutesType σ A B) → PutsDeep k σ → TypeHasDeep k d
type_put_deep k (inside_pi d f) h = inr (inr (inl h))
type_put_deep k (at_atom d) h = inr (inr (inl h))

pub kind_result_deep : (k : ℕ) {σ : ℕ → Image} {K L : Kind} (d : SubstitutesKind σ K L) → k < kind_depth L → KindHasDeep k d
kind_result_deep k (inside_kind_pi d f) h = inr (inl h)
kind_result_deep k at_star h = inl h

pub kind_put_deep : (k : ℕ) {σ : ℕ → Image} {K L : Kind} (d : SubstitutesKind σ K L) → PutsDeep k σ → KindHasDeep k d
kind_put_deep k (inside_kind_pi d f) h = inr (inr (inl h))
kind_put_deep k at_star h = inr h

-- Under a lambda there is no more to know.
pub deep_in_lambda : (k : ℕ) (σ : ℕ → Image) (M : Term) → DeepSubstitution k (lift σ) M → DeepSubstitution k σ (lambda M)
deep_in_lambda k σ M (R, d, h) = (lambda R, inside_lambda d, inr (inr (inr h)))

-- On skeleton-typed terms: what is found deep on the way stands in a derivation of the whole.
module _ (κ : HeadSkeletons) (k : ℕ) where
  pub deep_reduct : (Δ : List Skeleton) (a : Skeleton) (N : Term) (S : Spine) (c : ℕ) → TermSkeleton κ Δ N a → SpineSkeleton κ Δ S a (base c) → k < depth (reduce a N S) → DeepReduction k a N S
  deep_reduct Δ a N S c n s h = let r = rules_total_reduction κ a Δ N S c n s in (reduce a N S, r, reduct_deep k r h)

  pub deep_applied : (Δ : List Skeleton) (a : Skeleton) (N : Term) (S : Spine) (c : ℕ) → TermSkeleton κ Δ N a → SpineSkeleton κ Δ S a (base c) → k < depth N → DeepReduction k a N S
  deep_applied Δ a N S c n s h = let r = rules_total_reduction κ a Δ N S c n s in (reduce a N S, r, applied_deep k r h)

  pub deep_argument : (Δ : List Skeleton) (a : Skeleton) (N : Term) (S : Spine) (c : ℕ) → TermSkeleton κ Δ N a → SpineSkeleton κ Δ S a (base c) → k < spine_depth S → DeepReduction k a N S
  deep_argument Δ a N S c n s h = let r = rules_total_reduction κ a Δ N S c n s in (reduce a N S, r, argument_deep k r h)

  -- in the substitution of the first argument, and in what is left to do after it
  pub deep_in_beta : (Δ : List Skeleton) (a b : Skeleton) (M N : Term) (S : Spine) (c : ℕ) → TermSkeleton κ (a ∷ Δ) M b → SpineSkeleton κ Δ (app N S) (arrow a b) (base c) → DeepSubstitution k (single a N) M → DeepReduction k (arrow a b) (lambda M) (app N S)
  deep_in_beta Δ a b M N S c m (n, s) (R, d, h) =
      let t : TermSkeleton κ Δ R b = subst (λ X. TermSkeleton κ Δ X b) (sym (rules_agree d)) (substitution_keeps_skeletons κ (a ∷ Δ) Δ (single a N) M b (single_by_skeletons κ a Δ N n) m) in
      (reduce b R S, beta d (rules_total_reduction κ b Δ R S c t s), inr (inr (inr (inl h))))

  pub deep_after_beta : (Δ : List Skeleton) (a b : Skeleton) (M N : Term) (S : Spine) → TermSkeleton κ (a ∷ Δ) M b → TermSkeleton κ Δ N a → DeepReduction k b (substitute reduce (single a N) M) S → DeepReduction k (arrow a b) (lambda M) (app N S)
  deep_after_beta Δ a b M N S m n (R, r, h) = (R, beta (rules_total κ (a ∷ Δ) Δ (single a N) M b (single_by_skeletons κ a Δ N n) m) r, inr (inr (inr (inr h))))

  module _ (Γ Δ : List Skeleton) (σ : ℕ → Image) (w : SubstitutionBySkeletons κ Γ Δ σ) where
    pub deep_result : (M : Term) (t : Skeleton) → TermSkeleton κ Γ M t → k < depth (substitute reduce σ M) → DeepSubstitution k σ M
    deep_result M t m h = let d = rules_total κ Γ Δ σ M t w m in (substitute reduce σ M, d, result_deep k d h)

    pub deep_subject : (M : Term) (t : Skeleton) → TermSkeleton κ Γ M t → k < depth M → DeepSubstitution k σ M
    deep_subject M t m h = let d = rules_total κ Γ Δ σ M t w m in (substitute reduce σ M, d, subject_deep k d h)

    pub deep_put : (M : Term) (t : Skeleton) → TermSkeleton κ Γ M t → PutsDeep k σ → DeepSubstitution k σ M
    deep_put M t m h = let d = rules_total κ Γ Δ σ M t w m in (substitute reduce σ M, d, put_deep k d h)

    pub deep_spine_result : (S : Spine) (t u : Skeleton) → SpineSkeleton κ Γ S t u → k < spine_depth (substitute_spine reduce σ S) → DeepSpineSubstitution k σ S
    deep_spine_result S t u s h = let d = rules_total_spine κ Γ Δ σ S t u w s in (substitute_spine reduce σ S, d, spine_result_deep k d h)

    -- in the first argument of a spine, and in the others
    pub deep_in_first : (M : Term) (S : Spine) (t u : Skeleton) → SpineSkeleton κ Γ S t u → DeepSubstitution k σ M → DeepSpineSubstitution k σ (app M S)
    deep_in_first M S t u s (R, d, h) = (app R (substitute_spine reduce σ S), more d (rules_total_spine κ Γ Δ σ S t u w s), inl h)

    pub deep_in_rest : (M : Term) (S : Spine) (a : Skeleton) → TermSkeleton κ Γ M a → DeepSpineSubstitution k σ S → DeepSpineSubstitution k σ (app M S)
    deep_in_rest M S a m (R, d, h) = (app (substitute reduce σ M) R, more (rules_total κ Γ Δ σ M a w m) d, inr h)

    at_variable : (i : ℕ) (S R : Spine) (t : Skeleton) (c : ℕ) (d : SubstitutesSpine σ S R) (x : Image) → σ i ≡ x → ImageSkeleton κ Δ x t → SpineSkeleton κ Δ R t (base c) → SpineHasDeep k d → DeepSubstitution k σ (root (variable i) S)
    at_variable i S R t c d (keep j) e g s h = (root (variable j) R, at_keep e d, inr (inr (inr h)))
    at_variable i S R t c d (put a N) e (f, n) s h = (reduce a N R, at_put e d (rules_total_reduction κ a Δ N R c n (subst (λ z. SpineSkeleton κ Δ R z (base c)) (sym f) s)), inr (inr (inr (inl h))))

    -- in the arguments of a root
    pub deep_in_root : (g : Head) (S : Spine) (c : ℕ) → TermSkeleton κ Γ (root g S) (base c) → DeepSpineSubstitution k σ S → DeepSubstitution k σ (root g S)
    deep_in_root (constant e) S c m (R, d, h) = (root (constant e) R, at_constant d, inr (inr (inr h)))
    deep_in_root (metavariable e) S c m (R, d, h) = (root (metavariable e) R, at_metavariable d, inr (inr (inr h)))
    deep_in_root (variable i) S c (t, g, s) (R, d, h) = at_variable i S R t c d (σ i) refl (w i t g) (subst (λ X. SpineSkeleton κ Δ X t (base c)) (sym (rules_agree_spine d)) (substitution_keeps_spine_skeletons κ Γ Δ σ S t (base c) w s)) h

    -- in the reduction at a variable for which a term is put in
    pub deep_in_reduction : (i : ℕ) (S : Spine) (c : ℕ) (a : Skeleton) (N : Term) → TermSkeleton κ Γ (root (variable i) S) (base c) → σ i ≡ put a N → DeepReduction k a N (substitute_spine reduce σ S) → DeepSubstitution k σ (root (variable i) S)
    deep_in_reduction i S c a N (t, g, s) e (R, r, h) = (R, at_put e (rules_total_spine κ Γ Δ σ S t (base c) w s) r, inr (inr (inr (inr h))))

    pub deep_type_result : (φ : ℕ → Option Skeleton) (A : LfType) → TypeBySkeletons φ κ Γ A → k < type_depth (substitute_type reduce σ A) → DeepTypeSubstitution k σ A
    deep_type_result φ A a h = let d = rules_total_type κ φ Γ Δ σ A w a in (substitute_type reduce σ A, d, type_result_deep k d h)

    pub deep_type_subject : (φ : ℕ → Option Skeleton) (A : LfType) → TypeBySkeletons φ κ Γ A → k < type_depth A → DeepTypeSubstitution k σ A
    deep_type_subject φ A a h = let d = rules_total_type κ φ Γ Δ σ A w a in (substitute_type reduce σ A, d, type_subject_deep k d h)

    pub deep_type_put : (φ : ℕ → Option Skeleton) (A : LfType) → TypeBySkeletons φ κ Γ A → PutsDeep k σ → DeepTypeSubstitution k σ A
    deep_type_put φ A a h = let d = rules_total_type κ φ Γ Δ σ A w a in (substitute_type reduce σ A, d, type_put_deep k d h)

    pub deep_in_atom : (a : ℕ) (S : Spine) → DeepSpineSubstitution k σ S → DeepTypeSubstitution k σ (atom a S)
    deep_in_atom a S (R, d, h) = (atom a R, at_atom d, inr (inr (inr h)))

    pub deep_in_domain : (φ : ℕ → Option Skeleton) (A B : LfType) → TypeBySkeletons φ κ (skeleton A ∷ Γ) B → DeepTypeSubstitution k σ A → DeepTypeSubstitution k σ (pi A B)
    deep_in_domain φ A B b (R, d, h) = (pi R (substitute_type reduce (lift σ) B), inside_pi d (rules_total_type κ φ (skeleton A ∷ Γ) (skeleton A ∷ Δ) (lift σ) B (lift_by_skeletons κ (skeleton A) Γ Δ σ w) b), inr (inr (inr (inl h))))

    pub deep_in_codomain : (φ : ℕ → Option Skeleton) (A B : LfType) → TypeBySkeletons φ κ Γ A → DeepTypeSubstitution k (lift σ) B → DeepTypeSubstitution k σ (pi A B)
    deep_in_codomain φ A B a (R, d, h) = (pi (substitute_type reduce σ A) R, inside_pi (rules_total_type κ φ Γ Δ σ A w a) d, inr (inr (inr (inr h))))

    pub deep_kind_result : (φ : ℕ → Option Skeleton) (K : Kind) → KindBySkeletons φ κ Γ K → k < kind_depth (substitute_kind reduce σ K) → DeepKindSubstitution k σ K
    deep_kind_result φ K g h = let d = rules_total_kind κ φ Γ Δ σ K w g in (substitute_kind reduce σ K, d, kind_result_deep k d h)

    pub deep_kind_put : (φ : ℕ → Option Skeleton) (K : Kind) → KindBySkeletons φ κ Γ K → PutsDeep k σ → DeepKindSubstitution k σ K
    deep_kind_put φ K g h = let d = rules_total_kind κ φ Γ Δ σ K w g in (substitute_kind reduce σ K, d, kind_put_deep k d h)
