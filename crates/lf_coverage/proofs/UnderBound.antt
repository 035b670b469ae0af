-- Variables, values and skeletons under bound variables.
use Rattle.std.proofs.Common.{◌≡◌, ℕ, zero, suc, List, [], ◌∷◌, length, refl, sym, ap, ◌∙◌, true≢false}
use Rattle.std.specs.Prelude.{◌++◌, Bool, true, false, not, Some, cond}
use Rattle.lf.specs.Syntax.{Head, constant, variable, Term, Spine, root, Skeleton, rename}
use Rattle.lf.specs.Substitution.{Image, keep, put, rename_image, apply_image, reduce}
use Rattle.lf.specs.AtOnce.{lift_by}
use Rattle.lf.specs.SkeletonTyping.{SkeletonAt}
use Rattle.lf.specs.Variables.{Uses, SameOn}
use Rattle.lf.proofs.Renaming.{renamings_compose, substitute_identity}
use Rattle.lf.proofs.AtOnce.{rename_identity}
use Rattle.lf.proofs.TypeLaws.{substitution_as_renaming}
use Rattle.lf.proofs.Agreement.{agree_on}
use Rattle.lf_checks.specs.Tests.{either}
use Rattle.lf_checks.specs.Strict.{lower, pattern_arguments}
use Rattle.lf_cases.specs.Candidates.{counted}
use Rattle.lf_coverage.specs.Matching.{without}
use Rattle.lf_coverage.specs.TermMatching.{HasPatterns, HavePatterns, TakesBound, TakeBound, heads_argument, bound, hidden, over, Stay, TakesBack}
use Rattle.lf_coverage.proofs.Choices.{choose_first, choose_second, none_counted, chosen}
use Rattle.lf_coverage.proofs.Parts.{keep_same}

-- a variable that isn't bound is one over the bound ones
pub over_down : (n i : ℕ) → not (bound n i) ≡ true → over n (without n i) ≡ i
over_down zero i e = refl
over_down (suc n) zero e = absurd cc
over_down (suc n) (suc i) e = ap suc (over_down n i e)

pub moved_down : (n : ℕ) (M : Term) → Uses (λ i. not (bound n i)) M → rename (over n) (rename (without n) M) ≡ M
moved_down n M u = renamings_compose (over n) (without n) M ∙ sym (substitution_as_renaming reduce (λ i. over n (without n i)) M) ∙ agree_on reduce (λ i. not (bound n i)) (λ i. keep (over n (without n i))) keep M (λ i e. ap keep (over_down n i e)) u ∙ substitute_identity reduce M

pub hidden_over : (n : ℕ) (P : ℕ → Bool) (i : ℕ) → hidden n P (over n i) ≡ P i
hidden_over zero P i = refl
hidden_over (suc n) P i = hidden_over n P i

pub hidden_is_over : (n : ℕ) (P : ℕ → Bool) (i : ℕ) → hidden n P i ≡ true → (y : ℕ) × (i ≡ over n y) × (P y ≡ true)
hidden_is_over zero P i e = (i, refl, e)
hidden_is_over (suc n) P zero e = absurd cc
hidden_is_over (suc n) P (suc i) e = let (y, q, p) = hidden_is_over n P i e in (y, ap suc q, p)

pub lower_over : (n y : ℕ) → lower n (over n y) ≡ Some y
lower_over zero y = refl
lower_over (suc n) y = lower_over n y

-- the bound variables stay
pub lifted_keeps : (n : ℕ) (θ : ℕ → Image) (i : ℕ) → bound n i ≡ true → lift_by n θ i ≡ keep i
lifted_keeps zero θ i e = absurd cc
lifted_keeps (suc n) θ zero e = refl
lifted_keeps (suc n) θ (suc i) e = ap (rename_image suc) (lifted_keeps n θ i e)

-- a value, under the bound variables
pub lifted_value : (n : ℕ) (θ : ℕ → Image) (y : ℕ) (s : Skeleton) (V : Term) → θ y ≡ put s V → lift_by n θ (over n y) ≡ put s (rename (over n) V)
lifted_value zero θ y s V e = e ∙ ap (put s) (sym (rename_identity V))
lifted_value (suc n) θ y s V e = ap (rename_image suc) (lifted_value n θ y s V e) ∙ ap (put s) (renamings_compose suc (over n) V)

pub lifted_same : (n : ℕ) (U : ℕ → Bool) (θ υ : ℕ → Image) → ((x : ℕ) → U (over n x) ≡ true → θ x ≡ υ x) → SameOn U (lift_by n θ) (lift_by n υ)
lifted_same zero U θ υ h i e = h i e
lifted_same (suc n) U θ υ h zero e = refl
lifted_same (suc n) U θ υ h (suc i) e = ap (rename_image suc) (lifted_same n (λ j. U (suc j)) θ υ h i e)

-- images of bound variables and of what stays
pub stay_lifted : (D Γ : List Skeleton) (F : ℕ → Bool) (σ : ℕ → Image) → Stay Γ F σ → Stay (D ++ Γ) (hidden (length D) F) (lift_by (length D) σ)
stay_lifted [] Γ F σ h i t g e = h i t g e
stay_lifted (a ∷ D) Γ F σ h zero t g e = (zero, refl)
stay_lifted (a ∷ D) Γ F σ h (suc i) t g e = let (j, q) = stay_lifted D Γ F σ h i t g e in (suc j, ap (rename_image suc) q)

pub moved_image : (x : Image) (k : ℕ) → rename_image suc x ≡ keep k → (j : ℕ) × (k ≡ suc j) × (x ≡ keep j)
moved_image (keep i) k e = (i, sym (keep_same e), refl)
moved_image (put a N) k e = absurd cc

pub back_lifted : (n : ℕ) (F P : ℕ → Bool) (σ τ θ : ℕ → Image) → TakesBack F P σ τ θ → TakesBack (hidden n F) (hidden n P) (lift_by n σ) (lift_by n τ) (lift_by n θ)
back_lifted zero F P σ τ θ h i j k f p e q = h i j k f p e q
back_lifted (suc n) F P σ τ θ h zero zero k f p e q = refl
back_lifted (suc n) F P σ τ θ h zero (suc j) k f p e q = let (l, r, s) = moved_image (lift_by n τ j) k q in absurd (apart l (e ∙ ap keep r))
  where
    apart : (l : ℕ) → keep zero ≡ keep (suc l) → ⊥
    apart l e = cc
back_lifted (suc n) F P σ τ θ h (suc i) zero k f p e q = let (l, r, s) = moved_image (lift_by n σ i) k e in absurd (apart l (q ∙ ap keep r))
  where
    apart : (l : ℕ) → keep zero ≡ keep (suc l) → ⊥
    apart l e = cc
back_lifted (suc n) F P σ τ θ h (suc i) (suc j) k f p e q =
    let (l, r, s) = moved_image (lift_by n σ i) k e in
    let (m, r', s') = moved_image (lift_by n τ j) k q in
    let w : m ≡ l = let z : suc m ≡ suc l = sym r' ∙ r in cc in
    ap (rename_image suc) (back_lifted n F P σ τ θ h i j l f p s (s' ∙ ap keep w))

-- the skeletons under the bound variables
pub over_at : (D Δ : List Skeleton) (i : ℕ) (t : Skeleton) → SkeletonAt (D ++ Δ) (over (length D) i) t → SkeletonAt Δ i t
over_at [] Δ i t g = g
over_at (a ∷ D) Δ i t g = over_at D Δ i t g

pub bound_at : (D Δ Φ : List Skeleton) (i : ℕ) (t : Skeleton) → bound (length D) i ≡ true → SkeletonAt (D ++ Φ) i t → SkeletonAt (D ++ Δ) i t
bound_at [] Δ Φ i t e g = absurd cc
bound_at (a ∷ D) Δ Φ zero t e g = g
bound_at (a ∷ D) Δ Φ (suc i) t e g = bound_at D Δ Φ i t e g

-- a variable of the set has a pattern, and is applied to the bound variables
pub pattern_here : (B P : ℕ → Bool) (i : ℕ) (S : Spine) → P i ≡ true → HasPatterns B P (root (variable i) S) → pattern_arguments B [] S ≡ true
pattern_here B P i S p h = choose_first (pattern_arguments B [] S ≡ true) (HavePatterns B P S) (P i) p h

pub patterns_inside : (B P : ℕ → Bool) (i : ℕ) (S : Spine) → P i ≡ false → HasPatterns B P (root (variable i) S) → HavePatterns B P S
patterns_inside B P i S p h = choose_second (pattern_arguments B [] S ≡ true) (HavePatterns B P S) (P i) p h

pub bound_here : (B P : ℕ → Bool) (h : Head) (S : Spine) (j : ℕ) (T : Spine) → P j ≡ true → TakesBound B P (root h S) (root (variable j) T) → Uses (λ i. either (not (B i)) (heads_argument i T)) (root h S)
bound_here B P h S j T p k = choose_first (Uses (λ i. either (not (B i)) (heads_argument i T)) (root h S)) (TakeBound B P S T) (P j) p k

pub bound_inside : (B P : ℕ → Bool) (h : Head) (S : Spine) (j : ℕ) (T : Spine) → P j ≡ false → TakesBound B P (root h S) (root (variable j) T) → TakeBound B P S T
bound_inside B P h S j T p k = choose_second (Uses (λ i. either (not (B i)) (heads_argument i T)) (root h S)) (TakeBound B P S T) (P j) p k

-- roots that are the same
pub root_spine : {h k : Head} {S T : Spine} → root h S ≡ root k T → S ≡ T
root_spine e = cc

pub root_head : {h k : Head} {S T : Spine} → root h S ≡ root k T → h ≡ k
root_head e = cc

pub variable_same : {i j : ℕ} → variable i ≡ variable j → i ≡ j
variable_same e = cc

pub constant_same : {c d : ℕ} → constant c ≡ constant d → c ≡ d
constant_same e = cc

-- values that keep all but variables of P take back as before
pub takes_back : (F P : ℕ → Bool) (σ τ θ υ : ℕ → Image) → ((x : ℕ) → P x ≡ false → υ x ≡ θ x) → TakesBack F P σ τ θ → TakesBack F P σ τ υ
takes_back F P σ τ θ υ h k i j l f p e q = h j p ∙ k i j l f p e q

pub kept_outside : (P : ℕ → Bool) (θ υ : ℕ → Image) (Q : ℕ → Type 0) → ((x : ℕ) → (P x ≡ true → Q x) → υ x ≡ θ x) → (x : ℕ) → P x ≡ false → υ x ≡ θ x
kept_outside P θ υ Q h x p = h x (λ e. absurd (true≢false (sym e ∙ p)))

pub head_of_constant : (c d : ℕ) (S T : Spine) → root (constant c) S ≡ root (constant d) T → (c ≡ d) × (S ≡ T)
head_of_constant c d S T e = (constant_same (root_head e), root_spine e)

-- an instance of a variable that stays
pub stays_root : (x : Image) (k : ℕ) (S : Spine) → x ≡ keep k → apply_image reduce x S ≡ root (variable k) S
stays_root x k S e = ap (λ z. apply_image reduce z S) e

-- a free variable at the head of a pattern is a candidate, where there are none
pub no_candidate : (n : ℕ) (F : ℕ → Bool) (i : ℕ) (S : Spine) (xs : List ℕ) → HasPatterns (bound n) (hidden n F) (root (variable i) S) → cond (hidden n F i) (counted (pattern_arguments (bound n) [] S) (lower n i)) xs ≡ [] → hidden n F i ≡ true → ⊥
no_candidate n F i S xs h q f =
    let (y, r, fy) = hidden_is_over n F i f in
    none_counted (pattern_arguments (bound n) [] S) (lower n i) y (pattern_here (bound n) (hidden n F) i S f h) (ap (lower n) r ∙ lower_over n y) (chosen (hidden n F i) (counted (pattern_arguments (bound n) [] S) (lower n i)) xs f q)
