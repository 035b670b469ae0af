-- What stands for the variables that a goal of outputs gives, and for the others.
use Rattle.std.proofs.Common.{◌≡◌, ℕ, zero, suc, ◌+◌, List, [], ◌∷◌, refl, sym, ap, ◌∙◌, arith}
use Rattle.std.specs.Prelude.{Bool, true, false, cond, Option, Some, None}
use Rattle.lf.specs.Syntax.{constant, variable, metavariable, Term, Spine, lambda, root, nil, app, LfType, pi, atom, Skeleton, base, arrow, skeleton}
use Rattle.lf.specs.Substitution.{Image, keep, put}
use Rattle.lf.specs.SkeletonTyping.{HeadSkeletons, SkeletonAt, TermSkeleton, SpineSkeleton, TypeBySkeletons}
use Rattle.lf.specs.Eta.{eta_long}
use Rattle.lf.specs.Typing.{TypeAt}
use Rattle.lf.specs.Variables.{under, Uses, UsesSpine, UsesType}
use Rattle.lf.proofs.TypeLaws.{skeleton_renamed}
use Rattle.lf_cases.specs.Candidates.{given_images}
use Rattle.lf_cases.specs.OutputGoal.{kept_terms}
use Rattle.lf_cases.specs.Pattern.{is_given}

-- A text that skeletons type uses only variables of its context.
mutual
  term_in : (κ : HeadSkeletons) (U V : ℕ → Bool) (Γ : List Skeleton) (M : Term) (t : Skeleton) → TermSkeleton κ Γ M t → ((i : ℕ) (s : Skeleton) → SkeletonAt Γ i s → U i ≡ true → V i ≡ true) → Uses U M → Uses V M
  term_in κ U V Γ (lambda M) (arrow a b) m h u = term_in κ (under U) (under V) (a ∷ Γ) M b m (λ i. newer i) u
    where
      newer : (i : ℕ) (s : Skeleton) → SkeletonAt (a ∷ Γ) i s → under U i ≡ true → under V i ≡ true
      newer zero s g v = refl
      newer (suc i) s g v = h i s g v
  term_in κ U V Γ (lambda M) (base c) m h u = absurd m
  term_in κ U V Γ (root k S) (arrow a b) m h u = absurd m
  term_in κ U V Γ (root (constant k) S) (base c) (t, g, m) h u = spine_in κ U V Γ S t (base c) m h u
  term_in κ U V Γ (root (metavariable k) S) (base c) (t, g, m) h u = spine_in κ U V Γ S t (base c) m h u
  term_in κ U V Γ (root (variable i) S) (base c) (t, g, m) h (v, u) = (h i t g v, spine_in κ U V Γ S t (base c) m h u)

  spine_in : (κ : HeadSkeletons) (U V : ℕ → Bool) (Γ : List Skeleton) (S : Spine) (t v : Skeleton) → SpineSkeleton κ Γ S t v → ((i : ℕ) (s : Skeleton) → SkeletonAt Γ i s → U i ≡ true → V i ≡ true) → UsesSpine U S → UsesSpine V S
  spine_in κ U V Γ nil t v m h u = tt
  spine_in κ U V Γ (app M S) (arrow a b) v (m, n) h (u, w) = (term_in κ U V Γ M a m h u, spine_in κ U V Γ S b v n h w)
  spine_in κ U V Γ (app M S) (base c) v m h u = absurd m

pub type_in : (φ : ℕ → Option Skeleton) (κ : HeadSkeletons) (U V : ℕ → Bool) (Γ : List Skeleton) (A : LfType) → TypeBySkeletons φ κ Γ A → ((i : ℕ) (s : Skeleton) → SkeletonAt Γ i s → U i ≡ true → V i ≡ true) → UsesType U A → UsesType V A
type_in φ κ U V Γ (pi A B) (a, b) h (u, w) = (type_in φ κ U V Γ A a h u, type_in φ κ (under U) (under V) (skeleton A ∷ Γ) B b (λ i. newer i) w)
  where
    newer : (i : ℕ) (s : Skeleton) → SkeletonAt (skeleton A ∷ Γ) i s → under U i ≡ true → under V i ≡ true
    newer zero s g v = refl
    newer (suc i) s g v = h i s g v
type_in φ κ U V Γ (atom a S) (t, e, m) h u = spine_in κ U V Γ S t (base a) m h u

-- What is given stands for the variables in U; the others move past the items.
abbrev pub image_of : Bool → LfType → ℕ → ℕ → Image
image_of true X j k = put (skeleton X) (eta_long (skeleton X) (variable j))
image_of false X j k = keep k

pub image_at : (D : List LfType) (U : ℕ → Bool) (r : ℕ → ℕ) (n i : ℕ) (X : LfType) → TypeAt D i X → given_images D (kept_terms U D r) n i ≡ image_of (U i) X (r i) (i + n)
image_at [] U r n i X g = absurd g
image_at (A ∷ D) U r n zero X e = by (U zero)
  where
    by : (b : Bool) → given_images (A ∷ D) (cond b (Some (eta_long (skeleton A) (variable (r zero)))) None ∷ kept_terms (λ i. U (suc i)) D (λ i. r (suc i))) n zero ≡ image_of b X (r zero) (0 + n)
    by true = ap (λ a. put a (eta_long a (variable (r zero)))) (sym (ap skeleton e ∙ skeleton_renamed suc A))
    by false = ap keep (none n)
      where
        none : (n : ℕ) → n ≡ 0 + n
        none n = omega arith
image_at (A ∷ D) U r n (suc i) X (C, g, e) = by (U zero) (image_at D (λ i. U (suc i)) (λ i. r (suc i)) (suc n) i C g)
  where
    next : (i n : ℕ) → i + suc n ≡ suc i + n
    next i n = omega arith

    same : (b : Bool) → image_of b C (r (suc i)) (i + suc n) ≡ image_of b X (r (suc i)) (suc i + n)
    same true = ap (λ a. put a (eta_long a (variable (r (suc i))))) (sym (ap skeleton e ∙ skeleton_renamed suc C))
    same false = ap keep (next i n)

    by : (b : Bool) → given_images D (kept_terms (λ i. U (suc i)) D (λ i. r (suc i))) (suc n) i ≡ image_of (U (suc i)) C (r (suc i)) (i + suc n) → given_images (A ∷ D) (cond b (Some (eta_long (skeleton A) (variable (r zero)))) None ∷ kept_terms (λ i. U (suc i)) D (λ i. r (suc i))) n (suc i) ≡ image_of (U (suc i)) X (r (suc i)) (suc i + n)
    by true h = h ∙ same (U (suc i))
    by false h = h ∙ same (U (suc i))

pub is_given_at : (D : List LfType) (U : ℕ → Bool) (r : ℕ → ℕ) (i : ℕ) (X : LfType) → TypeAt D i X → U i ≡ true → is_given (kept_terms U D r) i ≡ true
is_given_at [] U r i X g u = absurd g
is_given_at (A ∷ D) U r zero X g u = ap (λ b. Rattle.lf_cases.specs.Pattern.is_there (cond b (Some (eta_long (skeleton A) (variable (r zero)))) None)) u
is_given_at (A ∷ D) U r (suc i) X (C, g, e) u = is_given_at D (λ i. U (suc i)) (λ i. r (suc i)) i C g u
