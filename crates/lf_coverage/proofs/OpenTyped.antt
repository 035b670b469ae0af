-- What is typed over a context is typed, with metavariables for its variables, up to any set of fillings.
use Rattle.std.proofs.Common.{◌≡◌, ℕ, zero, suc, List, [], ◌∷◌, length, inl, inr, refl, sym, ap, ap₂, ◌∙◌, subst}
use Rattle.std.specs.Prelude.{Option, Some, ◌⊎◌}
use Rattle.lf.specs.Syntax.{Head, constant, variable, metavariable, Term, Spine, lambda, root, nil, app, LfType, pi, atom, Kind, kind_pi, star, Skeleton, base, arrow, skeleton, weaken, lift_renaming, rename_head, rename, rename_spine, rename_type}
use Rattle.lf.specs.Substitution.{Image, keep, put, rename_image, apply_image, lift, single, substitute, substitute_spine, substitute_type, substitute_kind, reduce}
use Rattle.lf.specs.SkeletonTyping.{SkeletonAt, HeadSkeletons, TermSkeleton, SpineSkeleton, TypeBySkeletons, KindBySkeletons}
use Rattle.lf.specs.Skeletons.{constant_skeletons, family_skeletons}
use Rattle.lf.specs.Typing.{Signature, TypeAt, HasType, SpineType, SpineFitsKind, IsType, IsSignature, instantiate_type, instantiate_kind}
use Rattle.lf.specs.Variables.{onto}
use Rattle.lf.proofs.ToSkeletons.{type_by_skeletons, kind_by_skeletons}
use Rattle.lf_unification.specs.Filling.{fill_type}
use Rattle.lf_unification.specs.OpenTyping.{OpenHasType, OpenHeadHasType, OpenSpineType, OpenSpineFitsKind, OpenIsType, skeletons_of, under_locals}
use Rattle.lf_coverage.specs.SplitStore.{open_variable, open_term, open_spine, open_type, open_locals, open_some, context_metavariables}
use Rattle.lf_coverage.proofs.StoreSolution.{looked_up, skeleton_open}

-- a variable stays one, or becomes a metavariable
open_variable_is : (k i : ℕ) → ((v : ℕ) × (open_variable k i ≡ variable v)) ⊎ ((m : ℕ) × (open_variable k i ≡ metavariable m))
open_variable_is zero i = inr (i, refl)
open_variable_is (suc k) zero = inl (zero, refl)
open_variable_is (suc k) (suc i) = by (open_variable_is k i)
  where
    by : ((v : ℕ) × (open_variable k i ≡ variable v)) ⊎ ((m : ℕ) × (open_variable k i ≡ metavariable m)) → ((v : ℕ) × (open_variable (suc k) (suc i) ≡ variable v)) ⊎ ((m : ℕ) × (open_variable (suc k) (suc i) ≡ metavariable m))
    by (inl (v, e)) = inl (suc v, ap (rename_head suc) e)
    by (inr (m, e)) = inr (m, ap (rename_head suc) e)

-- Renaming.
abbrev pub Moves : ℕ → ℕ → (ℕ → ℕ) → Type 0
Moves k l ρ = (i : ℕ) → open_variable l (ρ i) ≡ rename_head ρ (open_variable k i)

head_past : (ρ : ℕ → ℕ) (h : Head) → rename_head suc (rename_head ρ h) ≡ rename_head (lift_renaming ρ) (rename_head suc h)
head_past ρ (constant c) = refl
head_past ρ (variable i) = refl
head_past ρ (metavariable m) = refl

moves_under : (k l : ℕ) (ρ : ℕ → ℕ) → Moves k l ρ → Moves (suc k) (suc l) (lift_renaming ρ)
moves_under k l ρ h zero = refl
moves_under k l ρ h (suc i) = ap (rename_head suc) (h i) ∙ head_past ρ (open_variable k i)

mutual
  pub open_renamed : (k l : ℕ) (ρ : ℕ → ℕ) → Moves k l ρ → (M : Term) → open_term l (rename ρ M) ≡ rename ρ (open_term k M)
  open_renamed k l ρ h (lambda M) = ap lambda (open_renamed (suc k) (suc l) (lift_renaming ρ) (moves_under k l ρ h) M)
  open_renamed k l ρ h (root (constant c) S) = ap (root (constant c)) (open_renamed_spine k l ρ h S)
  open_renamed k l ρ h (root (metavariable m) S) = ap (root (metavariable m)) (open_renamed_spine k l ρ h S)
  open_renamed k l ρ h (root (variable i) S) = ap₂ root (h i) (open_renamed_spine k l ρ h S)

  pub open_renamed_spine : (k l : ℕ) (ρ : ℕ → ℕ) → Moves k l ρ → (S : Spine) → open_spine l (rename_spine ρ S) ≡ rename_spine ρ (open_spine k S)
  open_renamed_spine k l ρ h nil = refl
  open_renamed_spine k l ρ h (app M S) = ap₂ app (open_renamed k l ρ h M) (open_renamed_spine k l ρ h S)

pub open_renamed_type : (k l : ℕ) (ρ : ℕ → ℕ) → Moves k l ρ → (A : LfType) → open_type l (rename_type ρ A) ≡ rename_type ρ (open_type k A)
open_renamed_type k l ρ h (pi A B) = ap₂ pi (open_renamed_type k l ρ h A) (open_renamed_type (suc k) (suc l) (lift_renaming ρ) (moves_under k l ρ h) B)
open_renamed_type k l ρ h (atom a S) = ap (atom a) (open_renamed_spine k l ρ h S)

pub open_weakened : (k : ℕ) (A : LfType) → open_type (suc k) (weaken A) ≡ weaken (open_type k A)
open_weakened k A = open_renamed_type k (suc k) suc (λ i. refl) A

-- What has metavariables for all variables is closed.
abbrev Fixes : ℕ → (ℕ → ℕ) → Type 0
Fixes k ρ = (i : ℕ) → rename_head ρ (open_variable k i) ≡ open_variable k i

fixes_under : (k : ℕ) (ρ : ℕ → ℕ) → Fixes k ρ → Fixes (suc k) (lift_renaming ρ)
fixes_under k ρ h zero = refl
fixes_under k ρ h (suc i) = sym (head_past ρ (open_variable k i)) ∙ ap (rename_head suc) (h i)

mutual
  opened_fixed : (k : ℕ) (ρ : ℕ → ℕ) → Fixes k ρ → (M : Term) → rename ρ (open_term k M) ≡ open_term k M
  opened_fixed k ρ h (lambda M) = ap lambda (opened_fixed (suc k) (lift_renaming ρ) (fixes_under k ρ h) M)
  opened_fixed k ρ h (root (constant c) S) = ap (root (constant c)) (opened_fixed_spine k ρ h S)
  opened_fixed k ρ h (root (metavariable m) S) = ap (root (metavariable m)) (opened_fixed_spine k ρ h S)
  opened_fixed k ρ h (root (variable i) S) = ap₂ root (h i) (opened_fixed_spine k ρ h S)

  opened_fixed_spine : (k : ℕ) (ρ : ℕ → ℕ) → Fixes k ρ → (S : Spine) → rename_spine ρ (open_spine k S) ≡ open_spine k S
  opened_fixed_spine k ρ h nil = refl
  opened_fixed_spine k ρ h (app M S) = ap₂ app (opened_fixed k ρ h M) (opened_fixed_spine k ρ h S)

opened_fixed_type : (k : ℕ) (ρ : ℕ → ℕ) → Fixes k ρ → (A : LfType) → rename_type ρ (open_type k A) ≡ open_type k A
opened_fixed_type k ρ h (pi A B) = ap₂ pi (opened_fixed_type k ρ h A) (opened_fixed_type (suc k) (lift_renaming ρ) (fixes_under k ρ h) B)
opened_fixed_type k ρ h (atom a S) = ap (atom a) (opened_fixed_spine k ρ h S)

pub opened_is_closed : (ρ : ℕ → ℕ) (A : LfType) → rename_type ρ (open_type zero A) ≡ open_type zero A
opened_is_closed ρ A = opened_fixed_type zero ρ (λ i. refl) A

-- What is closed stays.
abbrev pub StaysIn : ℕ → List Skeleton → Type 0
StaysIn k Γ = (i : ℕ) (t : Skeleton) → SkeletonAt Γ i t → open_variable k i ≡ variable i

stays_under : (k : ℕ) (Γ : List Skeleton) (a : Skeleton) → StaysIn k Γ → StaysIn (suc k) (a ∷ Γ)
stays_under k Γ a h zero t g = refl
stays_under k Γ a h (suc i) t g = ap (rename_head suc) (h i t g)

module _ (κ : HeadSkeletons) (φ : ℕ → Option Skeleton) where
  mutual
    open_same : (k : ℕ) (Γ : List Skeleton) → StaysIn k Γ → (M : Term) (t : Skeleton) → TermSkeleton κ Γ M t → open_term k M ≡ M
    open_same k Γ h (lambda M) (arrow a b) m = ap lambda (open_same (suc k) (a ∷ Γ) (stays_under k Γ a h) M b m)
    open_same k Γ h (lambda M) (base c) m = absurd m
    open_same k Γ h (root g S) (arrow a b) m = absurd m
    open_same k Γ h (root (constant c) S) (base d) (t, g, m) = ap (root (constant c)) (open_same_spine k Γ h S t (base d) m)
    open_same k Γ h (root (metavariable c) S) (base d) (t, g, m) = ap (root (metavariable c)) (open_same_spine k Γ h S t (base d) m)
    open_same k Γ h (root (variable i) S) (base d) (t, g, m) = ap₂ root (h i t g) (open_same_spine k Γ h S t (base d) m)

    open_same_spine : (k : ℕ) (Γ : List Skeleton) → StaysIn k Γ → (S : Spine) (t u : Skeleton) → SpineSkeleton κ Γ S t u → open_spine k S ≡ S
    open_same_spine k Γ h nil t u m = refl
    open_same_spine k Γ h (app M S) (arrow a b) u (m, n) = ap₂ app (open_same k Γ h M a m) (open_same_spine k Γ h S b u n)
    open_same_spine k Γ h (app M S) (base c) u m = absurd m

  open_same_type : (k : ℕ) (Γ : List Skeleton) → StaysIn k Γ → (A : LfType) → TypeBySkeletons φ κ Γ A → open_type k A ≡ A
  open_same_type k Γ h (pi A B) (a, b) = ap₂ pi (open_same_type k Γ h A a) (open_same_type (suc k) (skeleton A ∷ Γ) (stays_under k Γ (skeleton A) h) B b)
  open_same_type k Γ h (atom a S) (t, e, m) = ap (atom a) (open_same_spine k Γ h S t (base a) m)

-- the same in a kind
abbrev pub open_kind : ℕ → Kind → Kind
open_kind k (kind_pi A K) = kind_pi (open_type k A) (open_kind (suc k) K)
open_kind k star = star

pub open_same_kind : (κ : HeadSkeletons) (φ : ℕ → Option Skeleton) (k : ℕ) (Γ : List Skeleton) → StaysIn k Γ → (K : Kind) → KindBySkeletons φ κ Γ K → open_kind k K ≡ K
open_same_kind κ φ k Γ h (kind_pi A K) (a, b) = ap₂ kind_pi (open_same_type κ φ k Γ h A a) (open_same_kind κ φ (suc k) (skeleton A ∷ Γ) (stays_under k Γ (skeleton A) h) K b)
open_same_kind κ φ k Γ h star b = refl

-- Substitution: what is put in has metavariables for its variables too.
abbrev OpensAt : ℕ → Head → Image → (ℕ → Image) → Type 0
OpensAt l h x τ = ((v : ℕ) × (j : ℕ) × (w : ℕ) × (h ≡ variable v) × (x ≡ keep j) × (τ v ≡ keep w) × (open_variable l j ≡ variable w)) ⊎ ((v : ℕ) × (a : Skeleton) × (N : Term) × (h ≡ variable v) × (x ≡ put a N) × (τ v ≡ put a (open_term l N))) ⊎ ((m : ℕ) × (j : ℕ) × (h ≡ metavariable m) × (x ≡ keep j) × (open_variable l j ≡ metavariable m))

abbrev Opens : ℕ → ℕ → (ℕ → Image) → (ℕ → Image) → Type 0
Opens k l σ τ = (i : ℕ) → OpensAt l (open_variable k i) (σ i) τ

opens_next : (l : ℕ) (h : Head) (x : Image) (τ : ℕ → Image) → OpensAt l h x τ → OpensAt (suc l) (rename_head suc h) (rename_image suc x) (lift τ)
opens_next l h x τ (inl (v, j, w, e, p, q, r)) = inl (suc v, suc j, suc w, ap (rename_head suc) e, ap (rename_image suc) p, ap (rename_image suc) q, ap (rename_head suc) r)
opens_next l h x τ (inr (inl (v, a, N, e, p, q))) = inr (inl (suc v, a, rename suc N, ap (rename_head suc) e, ap (rename_image suc) p, ap (rename_image suc) q ∙ ap (put a) (sym (open_renamed l (suc l) suc (λ i. refl) N))))
opens_next l h x τ (inr (inr (m, j, e, p, r))) = inr (inr (m, suc j, ap (rename_head suc) e, ap (rename_image suc) p, ap (rename_head suc) r))

opens_under : (k l : ℕ) (σ τ : ℕ → Image) → Opens k l σ τ → Opens (suc k) (suc l) (lift σ) (lift τ)
opens_under k l σ τ h zero = inl (zero, zero, zero, refl, refl, refl, refl)
opens_under k l σ τ h (suc i) = opens_next l (open_variable k i) (σ i) τ (h i)

opens_single : (k : ℕ) (a : Skeleton) (N : Term) → Opens (suc k) k (single a N) (single a (open_term k N))
opens_single k a N zero = inr (inl (zero, a, N, refl, refl, refl))
opens_single k a N (suc i) = by (open_variable_is k i)
  where
    by : ((v : ℕ) × (open_variable k i ≡ variable v)) ⊎ ((m : ℕ) × (open_variable k i ≡ metavariable m)) → OpensAt k (open_variable (suc k) (suc i)) (keep i) (single a (open_term k N))
    by (inl (v, e)) = inl (suc v, i, v, ap (rename_head suc) e, refl, refl, e)
    by (inr (m, e)) = inr (inr (m, i, ap (rename_head suc) e, refl, e))

abbrev apply_head : (Skeleton → Term → Spine → Term) → (ℕ → Image) → Head → Spine → Term
apply_head r τ (constant c) T = root (constant c) T
apply_head r τ (metavariable m) T = root (metavariable m) T
apply_head r τ (variable v) T = apply_image r (τ v) T

head_applied : (r : Skeleton → Term → Spine → Term) (τ : ℕ → Image) (h : Head) (S : Spine) → substitute r τ (root h S) ≡ apply_head r τ h (substitute_spine r τ S)
head_applied r τ (constant c) S = refl
head_applied r τ (metavariable m) S = refl
head_applied r τ (variable v) S = refl

abbrev OpenNatural : (Skeleton → Term → Spine → Term) → Type 0
OpenNatural r = (a : Skeleton) (k : ℕ) (N : Term) (S : Spine) → open_term k (r a N S) ≡ r a (open_term k N) (open_spine k S)

opened_head : (r : Skeleton → Term → Spine → Term) → OpenNatural r → (l : ℕ) (h : Head) (x : Image) (τ : ℕ → Image) → OpensAt l h x τ → (T : Spine) → open_term l (apply_image r x T) ≡ apply_head r τ h (open_spine l T)
opened_head r n l h x τ (inl (v, j, w, e, p, q, s)) T = ap (λ y. open_term l (apply_image r y T)) p ∙ ap (λ g. root g (open_spine l T)) s ∙ ap (λ y. apply_image r y (open_spine l T)) (sym q) ∙ ap (λ g. apply_head r τ g (open_spine l T)) (sym e)
opened_head r n l h x τ (inr (inl (v, a, N, e, p, q))) T = ap (λ y. open_term l (apply_image r y T)) p ∙ n a l N T ∙ ap (λ y. apply_image r y (open_spine l T)) (sym q) ∙ ap (λ g. apply_head r τ g (open_spine l T)) (sym e)
opened_head r n l h x τ (inr (inr (m, j, e, p, s))) T = ap (λ y. open_term l (apply_image r y T)) p ∙ ap (λ g. root g (open_spine l T)) s ∙ ap (λ g. apply_head r τ g (open_spine l T)) (sym e)

module _ (r : Skeleton → Term → Spine → Term) (n : OpenNatural r) where
  mutual
    open_substituted : (k l : ℕ) (σ τ : ℕ → Image) → Opens k l σ τ → (M : Term) → open_term l (substitute r σ M) ≡ substitute r τ (open_term k M)
    open_substituted k l σ τ h (lambda M) = ap lambda (open_substituted (suc k) (suc l) (lift σ) (lift τ) (opens_under k l σ τ h) M)
    open_substituted k l σ τ h (root (constant c) S) = ap (root (constant c)) (open_substituted_spine k l σ τ h S)
    open_substituted k l σ τ h (root (metavariable m) S) = ap (root (metavariable m)) (open_substituted_spine k l σ τ h S)
    open_substituted k l σ τ h (root (variable i) S) = opened_head r n l (open_variable k i) (σ i) τ (h i) (substitute_spine r σ S) ∙ ap (apply_head r τ (open_variable k i)) (open_substituted_spine k l σ τ h S) ∙ sym (head_applied r τ (open_variable k i) (open_spine k S))

    open_substituted_spine : (k l : ℕ) (σ τ : ℕ → Image) → Opens k l σ τ → (S : Spine) → open_spine l (substitute_spine r σ S) ≡ substitute_spine r τ (open_spine k S)
    open_substituted_spine k l σ τ h nil = refl
    open_substituted_spine k l σ τ h (app M S) = ap₂ app (open_substituted k l σ τ h M) (open_substituted_spine k l σ τ h S)

open_natural : OpenNatural reduce
open_natural (base c) k N S = refl
open_natural (arrow a b) k (root (constant c) T) S = refl
open_natural (arrow a b) k (root (metavariable m) T) S = refl
open_natural (arrow a b) k (root (variable i) T) S = refl
open_natural (arrow a b) k (lambda M) nil = refl
open_natural (arrow a b) k (lambda M) (app N S) = open_natural b k (substitute (λ c. reduce a) (single a N) M) S ∙ ap (λ X. reduce b X (open_spine k S)) (open_substituted (λ c. reduce a) (λ c. open_natural a) (suc k) k (single a N) (single a (open_term k N)) (opens_single k a N) M)

open_substituted_type : (k l : ℕ) (σ τ : ℕ → Image) → Opens k l σ τ → (A : LfType) → open_type l (substitute_type reduce σ A) ≡ substitute_type reduce τ (open_type k A)
open_substituted_type k l σ τ h (pi A B) = ap₂ pi (open_substituted_type k l σ τ h A) (open_substituted_type (suc k) (suc l) (lift σ) (lift τ) (opens_under k l σ τ h) B)
open_substituted_type k l σ τ h (atom a S) = ap (atom a) (open_substituted_spine reduce open_natural k l σ τ h S)

open_substituted_kind : (k l : ℕ) (σ τ : ℕ → Image) → Opens k l σ τ → (K : Kind) → open_kind l (substitute_kind reduce σ K) ≡ substitute_kind reduce τ (open_kind k K)
open_substituted_kind k l σ τ h (kind_pi A K) = ap₂ kind_pi (open_substituted_type k l σ τ h A) (open_substituted_kind (suc k) (suc l) (lift σ) (lift τ) (opens_under k l σ τ h) K)
open_substituted_kind k l σ τ h star = refl

pub open_instance : (k : ℕ) (A : LfType) (M : Term) (B : LfType) → open_type k (instantiate_type A M B) ≡ instantiate_type (open_type k A) (open_term k M) (open_type (suc k) B)
open_instance k A M B = open_substituted_type (suc k) k (single (skeleton A) M) (single (skeleton A) (open_term k M)) (opens_single k (skeleton A) M) B ∙ ap (λ a. substitute_type reduce (single a (open_term k M)) (open_type (suc k) B)) (sym (skeleton_open k A))

pub open_instance_kind : (k : ℕ) (A : LfType) (M : Term) (K : Kind) → open_kind k (instantiate_kind A M K) ≡ instantiate_kind (open_type k A) (open_term k M) (open_kind (suc k) K)
open_instance_kind k A M K = open_substituted_kind (suc k) k (single (skeleton A) M) (single (skeleton A) (open_term k M)) (opens_single k (skeleton A) M) K ∙ ap (λ a. substitute_kind reduce (single a (open_term k M)) (open_kind (suc k) K)) (sym (skeleton_open k A))

-- Typing.
module _ (Σ : Signature) (ok : IsSignature Σ) (O : List LfType) (U : (ℕ → Option Term) → Type 0) where
  abbrev Ψ : ℕ → Option LfType
  Ψ = context_metavariables O

  pub constant_open : (k : ℕ) (c : ℕ) (A : LfType) → Σ.types c ≡ Some A → open_type k A ≡ A
  constant_open k c A e = open_same_type (constant_skeletons Σ) (family_skeletons Σ) k [] (λ i t g. absurd g) A (type_by_skeletons Σ [] A (ok.types_ok c A e))

  pub family_open : (k : ℕ) (a : ℕ) (K : Kind) → Σ.kinds a ≡ Some K → open_kind k K ≡ K
  family_open k a K e = open_same_kind (constant_skeletons Σ) (family_skeletons Σ) k [] (λ i t g. absurd g) K (kind_by_skeletons Σ [] K (ok.kinds_ok a K e))

  -- one more local variable
  head_next : (D : List LfType) (B : LfType) (h : Head) (A : LfType) → ((v : ℕ) × (h ≡ variable v)) ⊎ ((m : ℕ) × (h ≡ metavariable m)) → OpenHeadHasType Σ [] Ψ U D h A → OpenHeadHasType Σ [] Ψ U (B ∷ D) (rename_head suc h) (weaken A)
  head_next D B (constant c) A (inl (v, e)) g = absurd cc
  head_next D B (constant c) A (inr (m, e)) g = absurd cc
  head_next D B (variable i) A w g = (A, g, refl)
  head_next D B (metavariable m) A w (C, e, p) = (C, e, ap weaken p)

  pub variable_opened : (D : List LfType) (i : ℕ) (A : LfType) → TypeAt (onto D O) i A → OpenHeadHasType Σ [] Ψ U (open_locals D) (open_variable (length D) i) (open_type (length D) A)
  variable_opened [] i A g = (open_type zero A, ap open_some (looked_up O i A g), refl)
  variable_opened (B ∷ D) zero A e = ap (open_type (suc (length D))) e ∙ open_weakened (length D) B
  variable_opened (B ∷ D) (suc i) A (C, g, e) = subst (OpenHeadHasType Σ [] Ψ U (open_locals (B ∷ D)) (open_variable (suc (length D)) (suc i))) (sym (ap (open_type (suc (length D))) e ∙ open_weakened (length D) C)) (head_next (open_locals D) (open_type (length D) B) (open_variable (length D) i) (open_type (length D) C) (open_variable_is (length D) i) (variable_opened D i C g))

  mutual
    pub term_opened : (D : List LfType) (M : Term) (A : LfType) → HasType Σ (onto D O) M A → OpenHasType Σ [] Ψ U (open_locals D) (open_term (length D) M) (open_type (length D) A)
    term_opened D (lambda M) (pi A B) m = term_opened (A ∷ D) M B m
    term_opened D (lambda M) (atom a T) m = absurd m
    term_opened D (root h S) (pi A B) m = absurd m
    term_opened D (root (constant c) S) (atom a T) (A, e, s) = (A, e, subst (λ X. OpenSpineType Σ [] Ψ U (open_locals D) (open_spine (length D) S) X (open_type (length D) (atom a T))) (constant_open (length D) c A e) (spine_opened D S A (atom a T) s))
    term_opened D (root (metavariable m) S) (atom a T) (A, e, s) = absurd e
    term_opened D (root (variable i) S) (atom a T) (A, g, s) = (open_type (length D) A, variable_opened D i A g, spine_opened D S A (atom a T) s)

    pub spine_opened : (D : List LfType) (S : Spine) (A C : LfType) → SpineType Σ (onto D O) S A C → OpenSpineType Σ [] Ψ U (open_locals D) (open_spine (length D) S) (open_type (length D) A) (open_type (length D) C)
    spine_opened D nil A C e = (ap (λ X. skeleton (open_type (length D) X)) e, λ β u. ap (λ X. fill_type (skeletons_of Ψ) (under_locals (open_locals D) β) (open_type (length D) X)) e)
    spine_opened D (app M S) (pi A B) C (m, s) = (term_opened D M A m, subst (λ X. OpenSpineType Σ [] Ψ U (open_locals D) (open_spine (length D) S) X (open_type (length D) C)) (open_instance (length D) A M B) (spine_opened D S (instantiate_type A M B) C s))
    spine_opened D (app M S) (atom a T) C s = absurd s

  pub indices_opened : (D : List LfType) (S : Spine) (K : Kind) → SpineFitsKind Σ (onto D O) S K → OpenSpineFitsKind Σ [] Ψ U (open_locals D) (open_spine (length D) S) (open_kind (length D) K)
  indices_opened D nil (kind_pi A K) s = absurd s
  indices_opened D nil star s = tt
  indices_opened D (app M S) (kind_pi A K) (m, s) = (term_opened D M A m, subst (OpenSpineFitsKind Σ [] Ψ U (open_locals D) (open_spine (length D) S)) (open_instance_kind (length D) A M K) (indices_opened D S (instantiate_kind A M K) s))
  indices_opened D (app M S) star s = absurd s

  pub type_opened : (D : List LfType) (A : LfType) → IsType Σ (onto D O) A → OpenIsType Σ [] Ψ U (open_locals D) (open_type (length D) A)
  type_opened D (pi A B) (a, b) = (type_opened D A a, type_opened (A ∷ D) B b)
  type_opened D (atom a S) (K, e, s) = (K, e, subst (OpenSpineFitsKind Σ [] Ψ U (open_locals D) (open_spine (length D) S)) (family_open (length D) a K e) (indices_opened D S K s))
