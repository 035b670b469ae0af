-- The arguments that pass the test of a pattern are distinct eta-long variables: so the test goes along with renaming, and back.
use Rattle.std.proofs.Common.{◌≡◌, ℕ, zero, suc, List, [], ◌∷◌, refl, sym, ap, ap₂, ◌∙◌, subst}
use Rattle.std.specs.Prelude.{Bool, true, false, not, Option, Some, None}
use Rattle.lf.specs.Eta.{add_last, append}
use Rattle.lf.specs.Substitution.{Image, keep, substitute, substitute_spine, reduce}
use Rattle.lf.specs.Syntax.{Head, constant, variable, metavariable, Term, Spine, lambda, root, nil, app, Skeleton, base, arrow, rename, rename_head, rename_spine}
use Rattle.lf.specs.Variables.{same_number}
use Rattle.lf.proofs.Checker.{number_itself, both_of}
use Rattle.lf.proofs.Eta.{rename_eta_expand, substitute_eta_expand}
use Rattle.lf_unification.specs.OpenTyping.{MetavariablesIn, MetavariablesInSpine}
use Rattle.lf_unification.specs.Patterns.{FreeVariablesIn, FreeVariablesInSpine, Injective, LiftedSet, eta_variable}
use Rattle.lf_unification.specs.Putting.{IsRigidHead}
use Rattle.lf_unification.proofs.BindTyped.{in_pattern}
use Rattle.lf_checks.specs.Strict.{eta_at, head_variable, is_bound, pattern_arguments, with_seen}
use Rattle.lf_checks.specs.Tests.{both, either, is_in}
use Rattle.lf_checks.proofs.EtaTest.{both_l, both_r, is_eta}
use Rattle.lf_checks.proofs.Reach.{number_equal}
use Rattle.lf_coverage.specs.SplitStore.{open_variable, open_term, open_spine}
use Rattle.lf_coverage.proofs.PatternTerms.{head_in, variable_back}
use Rattle.lf_coverage.proofs.PatternTests.{eta_passes, eta_head}
use Rattle.lf_coverage.proofs.PatternValues.{open_expand}

-- distinct variables of R that weren't seen
abbrev pub Passes : (ℕ → Bool) → List ℕ → Spine → Type 0
Passes R seen nil = Unit {0}
Passes R seen (app M S) = (y : ℕ) × (b : Skeleton) × (M ≡ eta_variable b y) × (R y ≡ true) × (is_in y seen ≡ false) × Passes R (y ∷ seen) S

pub not_true : (b : Bool) → not b ≡ true → b ≡ false
not_true true e = absurd cc
not_true false e = refl

pub not_false : (b : Bool) → b ≡ false → not b ≡ true
not_false true e = absurd cc
not_false false e = refl

pub never_both : {A : Type 0} {b : Bool} → b ≡ true → b ≡ false → A
never_both e f = absurd cc

pub passes_from : (R : ℕ → Bool) (seen : List ℕ) (S : Spine) → pattern_arguments R seen S ≡ true → Passes R seen S
passes_from R seen nil e = tt
passes_from R seen (app M S) e = by (λ seen. passes_from R seen S) (head_variable zero M) (both_l (is_bound R seen M (head_variable zero M)) (pattern_arguments R (with_seen (head_variable zero M) seen) S) e) (both_r (is_bound R seen M (head_variable zero M)) (pattern_arguments R (with_seen (head_variable zero M) seen) S) e)
  where
    by : ((seen : List ℕ) → pattern_arguments R seen S ≡ true → Passes R seen S) → (o : Option ℕ) → is_bound R seen M o ≡ true → pattern_arguments R (with_seen o seen) S ≡ true → Passes R seen (app M S)
    by ih None e f = absurd cc
    by ih (Some y) e f =
        let (b, q) = is_eta y M (both_l (eta_at zero y M) (both (R y) (not (is_in y seen))) e) in
        let r : both (R y) (not (is_in y seen)) ≡ true = both_r (eta_at zero y M) (both (R y) (not (is_in y seen))) e in
        (y, b, q, both_l (R y) (not (is_in y seen)) r, not_true (is_in y seen) (both_r (R y) (not (is_in y seen)) r), ih (y ∷ seen) f)

pub passes_test : (R : ℕ → Bool) (seen : List ℕ) (S : Spine) → Passes R seen S → pattern_arguments R seen S ≡ true
passes_test R seen nil p = refl
passes_test R seen (app M S) (y, b, q, r, f, p) =
    let E : Term = eta_variable b y in
    let h : head_variable zero E ≡ Some y = eta_head b zero y nil in
    let here : is_bound R seen E (Some y) ≡ true = both_of (eta_at zero y E) (both (R y) (not (is_in y seen))) (eta_passes b zero y nil refl) (both_of (R y) (not (is_in y seen)) r (not_false (is_in y seen) f)) in
    subst (λ N. pattern_arguments R seen (app N S) ≡ true) (sym q) (both_of (is_bound R seen E (head_variable zero E)) (pattern_arguments R (with_seen (head_variable zero E) seen) S) (subst (λ o. is_bound R seen E o ≡ true) (sym h) here) (subst (λ o. pattern_arguments R (with_seen o seen) S ≡ true) (sym h) (passes_test R (y ∷ seen) S p)))

-- another test
pub passes_more : (R R' : ℕ → Bool) (seen seen' : List ℕ) (S : Spine) → ((y : ℕ) → R y ≡ true → R' y ≡ true) → ((y : ℕ) → R y ≡ true → is_in y seen ≡ false → is_in y seen' ≡ false) → Passes R seen S → Passes R' seen' S
passes_more R R' seen seen' nil h g p = tt
passes_more R R' seen seen' (app M S) h g (y, b, q, r, f, p) = (y, b, q, h y r, g y r f, passes_more R R' (y ∷ seen) (y ∷ seen') S h next p)
  where
    next : (x : ℕ) → R x ≡ true → is_in x (y ∷ seen) ≡ false → is_in x (y ∷ seen') ≡ false
    next x rx e = by (same_number x y) refl e
      where
        by : (b : Bool) → same_number x y ≡ b → either b (is_in x seen) ≡ false → either (same_number x y) (is_in x seen') ≡ false
        by true s e = absurd cc
        by false s e = ap (λ b. either b (is_in x seen')) s ∙ g x rx e

-- renamed
pub passes_renamed : (R R' : ℕ → Bool) (ρ : ℕ → ℕ) (seen seen' : List ℕ) (S : Spine) → ((y : ℕ) → R y ≡ true → R' (ρ y) ≡ true) → ((x y : ℕ) → R x ≡ true → R y ≡ true → ρ x ≡ ρ y → x ≡ y) → ((y : ℕ) → R y ≡ true → is_in y seen ≡ false → is_in (ρ y) seen' ≡ false) → Passes R seen S → Passes R' seen' (rename_spine ρ S)
passes_renamed R R' ρ seen seen' nil h a g p = tt
passes_renamed R R' ρ seen seen' (app M S) h a g (y, b, q, r, f, p) = (ρ y, b, ap (rename ρ) q ∙ rename_eta_expand ρ b (variable y) nil, h y r, g y r f, passes_renamed R R' ρ (y ∷ seen) (ρ y ∷ seen') S h a next p)
  where
    next : (x : ℕ) → R x ≡ true → is_in x (y ∷ seen) ≡ false → is_in (ρ x) (ρ y ∷ seen') ≡ false
    next x rx e = by (same_number x y) refl (same_number (ρ x) (ρ y)) refl e
      where
        by : (b : Bool) → same_number x y ≡ b → (c : Bool) → same_number (ρ x) (ρ y) ≡ c → either b (is_in x seen) ≡ false → either (same_number (ρ x) (ρ y)) (is_in (ρ x) seen') ≡ false
        by true s c t e = absurd cc
        by false s true t e = never_both (subst (λ z. same_number x z ≡ true) (a x y rx r (number_equal (ρ x) (ρ y) t)) (number_itself x)) s
        by false s false t e = ap (λ b. either b (is_in (ρ x) seen')) t ∙ g x rx e

-- and back
pub passes_back : (R R' : ℕ → Bool) (ρ : ℕ → ℕ) → Injective ρ → (seen seen' : List ℕ) (S : Spine) → ((y : ℕ) → R' (ρ y) ≡ true → R y ≡ true) → ((y : ℕ) → is_in (ρ y) seen' ≡ false → is_in y seen ≡ false) → Passes R' seen' (rename_spine ρ S) → Passes R seen S
passes_back R R' ρ inj seen seen' nil h g p = tt
passes_back R R' ρ inj seen seen' (app M S) h g (z, b, q, r, f, p) =
    let (y, e, m) = variable_back ρ inj b z M q in
    (y, b, m, h y (subst (λ x. R' x ≡ true) (sym e) r), g y (subst (λ x. is_in x seen' ≡ false) (sym e) f), passes_back R R' ρ inj (y ∷ seen) (z ∷ seen') S h (next y e) p)
  where
    next : (y : ℕ) → ρ y ≡ z → (x : ℕ) → is_in (ρ x) (z ∷ seen') ≡ false → is_in x (y ∷ seen) ≡ false
    next y e x k = by (same_number x y) refl (same_number (ρ x) z) refl k
      where
        by : (b : Bool) → same_number x y ≡ b → (c : Bool) → same_number (ρ x) z ≡ c → either c (is_in (ρ x) seen') ≡ false → either (same_number x y) (is_in x seen) ≡ false
        by b s true t k = absurd cc
        by true s false t k = never_both (subst (λ w. same_number (ρ x) w ≡ true) (ap ρ (number_equal x y s) ∙ e) (number_itself (ρ x))) t
        by false s false t k = ap (λ b. either b (is_in x seen)) s ∙ g x k

-- more behind
pub passes_behind : (L T R : ℕ → Bool) (seen : List ℕ) (S U : Spine) → ((y : ℕ) → L y ≡ true → R y ≡ true) → ((y : ℕ) → T y ≡ true → R y ≡ true) → ((x y : ℕ) → L x ≡ true → T y ≡ true → x ≡ y → ⊥) → ((y : ℕ) → T y ≡ true → is_in y seen ≡ false) → Passes L seen S → Passes T [] U → Passes R seen (append S U)
passes_behind L T R seen nil U l t a g p u = passes_more T R [] seen U t (λ y r f. g y r) u
passes_behind L T R seen (app M S) U l t a g (y, b, q, r, f, p) u = (y, b, q, l y r, f, passes_behind L T R (y ∷ seen) S U l t a next p u)
  where
    next : (x : ℕ) → T x ≡ true → is_in x (y ∷ seen) ≡ false
    next x tx = by (same_number x y) refl
      where
        by : (b : Bool) → same_number x y ≡ b → either (same_number x y) (is_in x seen) ≡ false
        by true s = absurd (a y x r tx (sym (number_equal x y s)))
        by false s = ap (λ b. either b (is_in x seen)) s ∙ g x tx

-- one more at the end
pub passes_last : (L R : ℕ → Bool) (seen : List ℕ) (S : Spine) (b : Skeleton) (y : ℕ) → ((x : ℕ) → L x ≡ true → R x ≡ true) → R y ≡ true → ((x : ℕ) → L x ≡ true → x ≡ y → ⊥) → is_in y seen ≡ false → Passes L seen S → Passes R seen (add_last S (eta_variable b y))
passes_last L R seen nil b y l r a g p = (y, b, refl, r, g, tt)
passes_last L R seen (app M S) b y l r a g (x, c, q, rx, f, p) = (x, c, q, l x rx, f, passes_last L R (x ∷ seen) S b y l r a next p)
  where
    next : is_in y (x ∷ seen) ≡ false
    next = by (same_number y x) refl
      where
        by : (b : Bool) → same_number y x ≡ b → either (same_number y x) (is_in y seen) ≡ false
        by true s = absurd (a x rx (sym (number_equal y x s)))
        by false s = ap (λ b. either b (is_in y seen)) s ∙ g

-- values that keep the variables
pub passes_kept : (R : ℕ → Bool) (σ : ℕ → Image) (ρ : ℕ → ℕ) (seen : List ℕ) (S : Spine) → ((y : ℕ) → R y ≡ true → σ y ≡ keep (ρ y)) → Passes R seen S → substitute_spine reduce σ S ≡ rename_spine ρ S
passes_kept R σ ρ seen nil h p = refl
passes_kept R σ ρ seen (app M S) h (y, b, q, r, f, p) = ap₂ app (ap (substitute reduce σ) q ∙ substitute_eta_expand σ b (variable y) (variable (ρ y)) nil (h y r) ∙ sym (rename_eta_expand ρ b (variable y) nil) ∙ ap (rename ρ) (sym q)) (passes_kept R σ ρ (y ∷ seen) S h p)

pub passes_fixed : (R : ℕ → Bool) (ρ : ℕ → ℕ) (seen : List ℕ) (S : Spine) → ((y : ℕ) → R y ≡ true → ρ y ≡ y) → Passes R seen S → rename_spine ρ S ≡ S
passes_fixed R ρ seen nil h p = refl
passes_fixed R ρ seen (app M S) h (y, b, q, r, f, p) = ap₂ app (ap (rename ρ) q ∙ rename_eta_expand ρ b (variable y) nil ∙ ap (eta_variable b) (h y r) ∙ sym q) (passes_fixed R ρ (y ∷ seen) S h p)

-- What is opened without a metavariable is the same, and all its variables are bound.
rigid_under : (P : ℕ → Type 0) (k : ℕ) → ((i : ℕ) → IsRigidHead (open_variable k i) → P i) → (i : ℕ) → IsRigidHead (open_variable (suc k) i) → LiftedSet P i
rigid_under P k h zero r = tt
rigid_under P k h (suc i) r = h i (under (open_variable k i) r)
  where
    under : (g : Head) → IsRigidHead (rename_head suc g) → IsRigidHead g
    under (constant c) r = r
    under (variable i) r = r
    under (metavariable m) r = r

no_constant : (k i c : ℕ) → open_variable k i ≡ constant c → ⊥
no_constant zero i c e = cc
no_constant (suc k) zero c e = cc
no_constant (suc k) (suc i) c e = by (no_constant k i) (open_variable k i) refl e
  where
    by : ((d : ℕ) → open_variable k i ≡ constant d → ⊥) → (g : Head) → open_variable k i ≡ g → rename_head suc g ≡ constant c → ⊥
    by h (constant d) q e = h d q
    by h (variable j) q e = cc
    by h (metavariable m) q e = cc

pub rigid_same : (k i : ℕ) → IsRigidHead (open_variable k i) → open_variable k i ≡ variable i
rigid_same zero i r = absurd r
rigid_same (suc k) zero r = refl
rigid_same (suc k) (suc i) r = by (rigid_same k i) (open_variable k i) refl r
  where
    by : (IsRigidHead (open_variable k i) → open_variable k i ≡ variable i) → (g : Head) → open_variable k i ≡ g → IsRigidHead (rename_head suc g) → rename_head suc g ≡ variable (suc i)
    by h (constant d) q r = absurd (no_constant k i d q)
    by h (variable j) q r = ap (rename_head suc) (sym q ∙ h (subst IsRigidHead (sym q) tt))
    by h (metavariable m) q r = absurd r

head_rigid : (h : Head) (S : Spine) → MetavariablesIn (λ m. ⊥) (root h S) → IsRigidHead h × MetavariablesInSpine (λ m. ⊥) S
head_rigid (constant c) S v = (tt, v)
head_rigid (variable i) S v = (tt, v)
head_rigid (metavariable m) S (v, w) = absurd v

mutual
  opened_same : (P : ℕ → Type 0) (k : ℕ) → ((i : ℕ) → IsRigidHead (open_variable k i) → P i) → (M : Term) → MetavariablesIn (λ m. ⊥) (open_term k M) → (open_term k M ≡ M) × FreeVariablesIn P M
  opened_same P k h (lambda M) v = let (e, f) = opened_same (LiftedSet P) (suc k) (rigid_under P k h) M v in (ap lambda e, f)
  opened_same P k h (root (constant c) S) v = let (e, f) = opened_same_spine P k h S v in (ap (root (constant c)) e, f)
  opened_same P k h (root (metavariable m) S) (v, w) = absurd v
  opened_same P k h (root (variable i) S) v =
      let (r, w) = head_rigid (open_variable k i) (open_spine k S) v in
      let (e, f) = opened_same_spine P k h S w in
      (ap₂ root (rigid_same k i r) e, (h i r, f))

  opened_same_spine : (P : ℕ → Type 0) (k : ℕ) → ((i : ℕ) → IsRigidHead (open_variable k i) → P i) → (S : Spine) → MetavariablesInSpine (λ m. ⊥) (open_spine k S) → (open_spine k S ≡ S) × FreeVariablesInSpine P S
  opened_same_spine P k h nil v = (refl, tt)
  opened_same_spine P k h (app M S) (v, w) =
      let (e, f) = opened_same P k h M v in
      let (q, g) = opened_same_spine P k h S w in
      (ap₂ app e q, (f, g))

opened_variable : (k y : ℕ) (b : Skeleton) (M : Term) → open_term k M ≡ eta_variable b y → (M ≡ eta_variable b y) × IsRigidHead (open_variable k y)
opened_variable k y b M e =
    let (q, f) = opened_same (λ i. IsRigidHead (open_variable k i)) k (λ i r. r) M (subst (MetavariablesIn (λ m. ⊥)) (sym e) (in_pattern (λ m. ⊥) (arrow b (base zero)) (y ∷ [])).0) in
    let m : M ≡ eta_variable b y = sym q ∙ e in
    (m, head_in (λ i. IsRigidHead (open_variable k i)) b y nil (subst (FreeVariablesIn (λ i. IsRigidHead (open_variable k i))) m f))

-- the test is the same where the outer variables are opened
pub passes_open : (R R' : ℕ → Bool) (k : ℕ) (seen : List ℕ) (S : Spine) → ((y : ℕ) → R y ≡ true → (open_variable k y ≡ variable y) × (R' y ≡ true)) → Passes R seen S → Passes R' seen (open_spine k S)
passes_open R R' k seen nil h p = tt
passes_open R R' k seen (app M S) h (y, b, q, r, f, p) = (y, b, ap (open_term k) q ∙ open_expand k b y nil ∙ ap (λ g. Rattle.lf.specs.Eta.eta_expand b g nil) (h y r).0, (h y r).1, f, passes_open R R' k (y ∷ seen) S h p)

pub passes_opened : (R R' : ℕ → Bool) (k : ℕ) (seen : List ℕ) (S : Spine) → ((y : ℕ) → R' y ≡ true → IsRigidHead (open_variable k y) → R y ≡ true) → Passes R' seen (open_spine k S) → Passes R seen S
passes_opened R R' k seen nil h p = tt
passes_opened R R' k seen (app M S) h (y, b, q, r, f, p) = let (m, g) = opened_variable k y b M q in (y, b, m, h y r g, f, passes_opened R R' k (y ∷ seen) S h p)
