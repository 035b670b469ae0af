-- What existential variables are applied to stays so where the outer variables, all of which are existential, are opened, and back.
use Rattle.std.proofs.Common.{◌≡◌, ℕ, zero, suc, ◌⊎◌, [], inl, inr, refl, sym, ap, ◌∙◌, subst}
use Rattle.std.specs.Prelude.{Bool, true, false}
use Rattle.lf.specs.Syntax.{constant, variable, metavariable, Term, Spine, lambda, root, nil, app, LfType, pi, atom, rename_head}
use Rattle.lf.specs.Variables.{under, hide, everything, nothing}
use Rattle.lf.proofs.Checker.{both_of}
use Rattle.lf_checks.specs.Strict.{pattern_arguments}
use Rattle.lf_checks.proofs.EtaTest.{both_l, both_r}
use Rattle.lf_coverage.specs.Indices.{head_has_patterns, item_has_patterns, newer, spine_has_patterns, takes, term_has_patterns, universal}
use Rattle.lf_coverage.specs.SplitStore.{open_variable, open_term, open_spine, open_type}
use Rattle.lf_coverage.proofs.IndicesRenamed.{choice, chosen, passed_over, may_take, takes_newer, takes_universal}
use Rattle.lf_coverage.proofs.IndicesTests.{never_both, not_false, not_true, passes_from, passes_open, passes_opened, passes_test, rigid_same}

-- the variable is bound, and stays, or is an outer one
pub data IsOpened (k i : ℕ) : Type 0 where
  stays : open_variable k i ≡ variable i → IsOpened k i
  opens : (m : ℕ) → open_variable k i ≡ metavariable m → IsOpened k i

pub opened : (k i : ℕ) → IsOpened k i
opened zero i = opens i refl
opened (suc k) zero = stays refl
opened (suc k) (suc i) = by (opened k i)
  where
    by : IsOpened k i → IsOpened (suc k) (suc i)
    by (stays e) = stays (ap (rename_head suc) e)
    by (opens m e) = opens m (ap (rename_head suc) e)

-- a bound variable is newer than an outer one
pub bound_is_newer : (k i j m : ℕ) → open_variable k i ≡ metavariable m → open_variable k j ≡ variable j → newer j i ≡ true
bound_is_newer zero i j m e f = absurd cc
bound_is_newer (suc k) zero j m e f = absurd cc
bound_is_newer (suc k) (suc i) zero m e f = refl
bound_is_newer (suc k) (suc i) (suc j) m e f = by (opened k i) (opened k j) (λ n p q. bound_is_newer k i j n p q)
  where
    by : IsOpened k i → IsOpened k j → ((n : ℕ) → open_variable k i ≡ metavariable n → open_variable k j ≡ variable j → newer j i ≡ true) → newer j i ≡ true
    by (stays p) q h = absurd (no (sym (ap (rename_head suc) p) ∙ e))
      where
        no : variable (suc i) ≡ metavariable m → ⊥
        no e = cc
    by (opens n p) (stays q) h = h n p q
    by (opens n p) (opens o q) h = absurd (no (sym (ap (rename_head suc) q) ∙ f))
      where
        no : metavariable o ≡ variable (suc j) → ⊥
        no e = cc

-- E has all outer variables, and inside both are the same.
pub record Opens (k : ℕ) (E E' : ℕ → Bool) : Type 0 where
  pub inside : (i : ℕ) → open_variable k i ≡ variable i → E' i ≡ E i
  pub outside : (i m : ℕ) → open_variable k i ≡ metavariable m → E i ≡ true

stays_back : (k i : ℕ) → open_variable (suc k) (suc i) ≡ variable (suc i) → open_variable k i ≡ variable i
stays_back k i e = by (opened k i)
  where
    by : IsOpened k i → open_variable k i ≡ variable i
    by (stays p) = p
    by (opens m p) = absurd (no (sym (ap (rename_head suc) p) ∙ e))
      where
        no : metavariable m ≡ variable (suc i) → ⊥
        no e = cc

opens_back : (k i m : ℕ) → open_variable (suc k) (suc i) ≡ metavariable m → open_variable k i ≡ metavariable m
opens_back k i m e = by (opened k i)
  where
    by : IsOpened k i → open_variable k i ≡ metavariable m
    by (opens n p) = p ∙ sym (ap (rename_head suc) p) ∙ e
    by (stays p) = absurd (no (sym (ap (rename_head suc) p) ∙ e))
      where
        no : variable (suc i) ≡ metavariable m → ⊥
        no e = cc

opens_hide : (k : ℕ) (E E' : ℕ → Bool) → Opens k E E' → Opens (suc k) (hide E) (hide E')
opens_hide k E E' o = record { inside = inside; outside = outside }
  where
    inside : (i : ℕ) → open_variable (suc k) i ≡ variable i → hide E' i ≡ hide E i
    inside zero e = refl
    inside (suc i) e = o.inside i (stays_back k i e)

    outside : (i m : ℕ) → open_variable (suc k) i ≡ metavariable m → hide E i ≡ true
    outside zero m e = absurd cc
    outside (suc i) m e = o.outside i m (opens_back k i m e)

opens_under : (k : ℕ) (E E' : ℕ → Bool) → Opens k E E' → Opens (suc k) (under E) (under E')
opens_under k E E' o = record { inside = inside; outside = outside }
  where
    inside : (i : ℕ) → open_variable (suc k) i ≡ variable i → under E' i ≡ under E i
    inside zero e = refl
    inside (suc i) e = o.inside i (stays_back k i e)

    outside : (i m : ℕ) → open_variable (suc k) i ≡ metavariable m → under E i ≡ true
    outside zero m e = refl
    outside (suc i) m e = o.outside i m (opens_back k i m e)

module _ (k : ℕ) (E E' : ℕ → Bool) (o : Opens k E E') where
  -- what is universal is bound
  universal_stays : (y : ℕ) → E y ≡ false → open_variable k y ≡ variable y
  universal_stays y f = by (opened k y)
    where
      by : IsOpened k y → open_variable k y ≡ variable y
      by (stays p) = p
      by (opens m p) = never_both (o.outside y m p) f

  pub open_universal : (S : Spine) → pattern_arguments (universal E) [] S ≡ true → pattern_arguments (universal E') [] (open_spine k S) ≡ true
  open_universal S e = passes_test (universal E') [] (open_spine k S) (passes_open (universal E) (universal E') k [] S (λ y r. let f : E y ≡ false = not_true (E y) r in (universal_stays y f, not_false (E' y) (o.inside y (universal_stays y f) ∙ f))) (passes_from (universal E) [] S e))

  pub open_taken : (i : ℕ) (S : Spine) → pattern_arguments (takes E i) [] S ≡ true → pattern_arguments (takes E' i) [] (open_spine k S) ≡ true
  open_taken i S e = passes_test (takes E' i) [] (open_spine k S) (passes_open (takes E i) (takes E' i) k [] S (λ y r. let f : E y ≡ false = takes_universal E i y r in (universal_stays y f, may_take E' i y (o.inside y (universal_stays y f) ∙ f) (takes_newer E i y r))) (passes_from (takes E i) [] S e))

  pub open_outer : (i : ℕ) (S : Spine) → pattern_arguments (takes E i) [] S ≡ true → pattern_arguments (universal E') [] (open_spine k S) ≡ true
  open_outer i S e = passes_test (universal E') [] (open_spine k S) (passes_open (takes E i) (universal E') k [] S (λ y r. let f : E y ≡ false = takes_universal E i y r in (universal_stays y f, not_false (E' y) (o.inside y (universal_stays y f) ∙ f))) (passes_from (takes E i) [] S e))

  pub opened_universal : (S : Spine) → pattern_arguments (universal E') [] (open_spine k S) ≡ true → pattern_arguments (universal E) [] S ≡ true
  opened_universal S e = passes_test (universal E) [] S (passes_opened (universal E) (universal E') k [] S (λ y r g. not_false (E y) (sym (o.inside y (rigid_same k y g)) ∙ not_true (E' y) r)) (passes_from (universal E') [] (open_spine k S) e))

  pub opened_taken : (i : ℕ) (S : Spine) → pattern_arguments (takes E' i) [] (open_spine k S) ≡ true → pattern_arguments (takes E i) [] S ≡ true
  opened_taken i S e = passes_test (takes E i) [] S (passes_opened (takes E i) (takes E' i) k [] S (λ y r g. may_take E i y (sym (o.inside y (rigid_same k y g)) ∙ takes_universal E' i y r) (takes_newer E' i y r)) (passes_from (takes E' i) [] (open_spine k S) e))

  pub opened_outer : (i m : ℕ) → open_variable k i ≡ metavariable m → (S : Spine) → pattern_arguments (universal E') [] (open_spine k S) ≡ true → pattern_arguments (takes E i) [] S ≡ true
  opened_outer i m q S e = passes_test (takes E i) [] S (passes_opened (takes E i) (universal E') k [] S (λ y r g. may_take E i y (sym (o.inside y (rigid_same k y g)) ∙ not_true (E' y) r) (bound_is_newer k i y m q (rigid_same k y g))) (passes_from (universal E') [] (open_spine k S) e))

  at_open : (i : ℕ) (S : Spine) → (spine_has_patterns E S ≡ true → spine_has_patterns E' (open_spine k S) ≡ true) → IsOpened k i → term_has_patterns E (root (variable i) S) ≡ true → term_has_patterns E' (root (open_variable k i) (open_spine k S)) ≡ true
  at_open i S h (opens m p) e = subst (λ g. term_has_patterns E' (root g (open_spine k S)) ≡ true) (sym p) (by (choice (E i) (pattern_arguments (takes E i) [] S) (spine_has_patterns E S) e))
    where
      by : ((E i ≡ true) × (pattern_arguments (takes E i) [] S ≡ true)) ⊎ ((E i ≡ false) × (spine_has_patterns E S ≡ true)) → pattern_arguments (universal E') [] (open_spine k S) ≡ true
      by (inl (t, e)) = open_outer i S e
      by (inr (f, e)) = never_both (o.outside i m p) f
  at_open i S h (stays p) e = subst (λ g. term_has_patterns E' (root g (open_spine k S)) ≡ true) (sym p) (by (choice (E i) (pattern_arguments (takes E i) [] S) (spine_has_patterns E S) e))
    where
      by : ((E i ≡ true) × (pattern_arguments (takes E i) [] S ≡ true)) ⊎ ((E i ≡ false) × (spine_has_patterns E S ≡ true)) → term_has_patterns E' (root (variable i) (open_spine k S)) ≡ true
      by (inl (t, e)) = chosen (E' i) (pattern_arguments (takes E' i) [] (open_spine k S)) (spine_has_patterns E' (open_spine k S)) (o.inside i p ∙ t) (open_taken i S e)
      by (inr (f, e)) = passed_over (E' i) (pattern_arguments (takes E' i) [] (open_spine k S)) (spine_has_patterns E' (open_spine k S)) (o.inside i p ∙ f) (h e)

  at_opened : (i : ℕ) (S : Spine) → (spine_has_patterns E' (open_spine k S) ≡ true → spine_has_patterns E S ≡ true) → IsOpened k i → term_has_patterns E' (root (open_variable k i) (open_spine k S)) ≡ true → term_has_patterns E (root (variable i) S) ≡ true
  at_opened i S h (opens m p) e = chosen (E i) (pattern_arguments (takes E i) [] S) (spine_has_patterns E S) (o.outside i m p) (opened_outer i m p S (subst (λ g. term_has_patterns E' (root g (open_spine k S)) ≡ true) p e))
  at_opened i S h (stays p) e = by (choice (E' i) (pattern_arguments (takes E' i) [] (open_spine k S)) (spine_has_patterns E' (open_spine k S)) (subst (λ g. term_has_patterns E' (root g (open_spine k S)) ≡ true) p e))
    where
      by : ((E' i ≡ true) × (pattern_arguments (takes E' i) [] (open_spine k S) ≡ true)) ⊎ ((E' i ≡ false) × (spine_has_patterns E' (open_spine k S) ≡ true)) → term_has_patterns E (root (variable i) S) ≡ true
      by (inl (t, e)) = chosen (E i) (pattern_arguments (takes E i) [] S) (spine_has_patterns E S) (sym (o.inside i p) ∙ t) (opened_taken i S e)
      by (inr (f, e)) = passed_over (E i) (pattern_arguments (takes E i) [] S) (spine_has_patterns E S) (sym (o.inside i p) ∙ f) (h e)

mutual
  pub term_open : (k : ℕ) (E E' : ℕ → Bool) → Opens k E E' → (M : Term) → term_has_patterns E M ≡ true → term_has_patterns E' (open_term k M) ≡ true
  term_open k E E' o (lambda M) e = term_open (suc k) (hide E) (hide E') (opens_hide k E E' o) M e
  term_open k E E' o (root (constant c) S) e = spine_open k E E' o S e
  term_open k E E' o (root (metavariable m) S) e = open_universal k E E' o S e
  term_open k E E' o (root (variable i) S) e = at_open k E E' o i S (spine_open k E E' o S) (opened k i) e

  pub spine_open : (k : ℕ) (E E' : ℕ → Bool) → Opens k E E' → (S : Spine) → spine_has_patterns E S ≡ true → spine_has_patterns E' (open_spine k S) ≡ true
  spine_open k E E' o nil e = refl
  spine_open k E E' o (app M S) e = both_of (term_has_patterns E' (open_term k M)) (spine_has_patterns E' (open_spine k S)) (term_open k E E' o M (both_l (term_has_patterns E M) (spine_has_patterns E S) e)) (spine_open k E E' o S (both_r (term_has_patterns E M) (spine_has_patterns E S) e))

mutual
  pub item_open : (k : ℕ) (E E' : ℕ → Bool) → Opens k E E' → (A : LfType) → item_has_patterns E A ≡ true → item_has_patterns E' (open_type k A) ≡ true
  item_open k E E' o (pi A B) e = both_of (head_has_patterns E' (open_type k A)) (item_has_patterns (hide E') (open_type (suc k) B)) (head_open k E E' o A (both_l (head_has_patterns E A) (item_has_patterns (hide E) B) e)) (item_open (suc k) (hide E) (hide E') (opens_hide k E E' o) B (both_r (head_has_patterns E A) (item_has_patterns (hide E) B) e))
  item_open k E E' o (atom a S) e = spine_open k E E' o S e

  pub head_open : (k : ℕ) (E E' : ℕ → Bool) → Opens k E E' → (A : LfType) → head_has_patterns E A ≡ true → head_has_patterns E' (open_type k A) ≡ true
  head_open k E E' o (pi A B) e = both_of (item_has_patterns E' (open_type k A)) (head_has_patterns (under E') (open_type (suc k) B)) (item_open k E E' o A (both_l (item_has_patterns E A) (head_has_patterns (under E) B) e)) (head_open (suc k) (under E) (under E') (opens_under k E E' o) B (both_r (item_has_patterns E A) (head_has_patterns (under E) B) e))
  head_open k E E' o (atom a S) e = spine_open k E E' o S e

mutual
  pub term_opened : (k : ℕ) (E E' : ℕ → Bool) → Opens k E E' → (M : Term) → term_has_patterns E' (open_term k M) ≡ true → term_has_patterns E M ≡ true
  term_opened k E E' o (lambda M) e = term_opened (suc k) (hide E) (hide E') (opens_hide k E E' o) M e
  term_opened k E E' o (root (constant c) S) e = spine_opened k E E' o S e
  term_opened k E E' o (root (metavariable m) S) e = opened_universal k E E' o S e
  term_opened k E E' o (root (variable i) S) e = at_opened k E E' o i S (spine_opened k E E' o S) (opened k i) e

  pub spine_opened : (k : ℕ) (E E' : ℕ → Bool) → Opens k E E' → (S : Spine) → spine_has_patterns E' (open_spine k S) ≡ true → spine_has_patterns E S ≡ true
  spine_opened k E E' o nil e = refl
  spine_opened k E E' o (app M S) e = both_of (term_has_patterns E M) (spine_has_patterns E S) (term_opened k E E' o M (both_l (term_has_patterns E' (open_term k M)) (spine_has_patterns E' (open_spine k S)) e)) (spine_opened k E E' o S (both_r (term_has_patterns E' (open_term k M)) (spine_has_patterns E' (open_spine k S)) e))

mutual
  pub item_opened : (k : ℕ) (E E' : ℕ → Bool) → Opens k E E' → (A : LfType) → item_has_patterns E' (open_type k A) ≡ true → item_has_patterns E A ≡ true
  item_opened k E E' o (pi A B) e = both_of (head_has_patterns E A) (item_has_patterns (hide E) B) (head_opened k E E' o A (both_l (head_has_patterns E' (open_type k A)) (item_has_patterns (hide E') (open_type (suc k) B)) e)) (item_opened (suc k) (hide E) (hide E') (opens_hide k E E' o) B (both_r (head_has_patterns E' (open_type k A)) (item_has_patterns (hide E') (open_type (suc k) B)) e))
  item_opened k E E' o (atom a S) e = spine_opened k E E' o S e

  pub head_opened : (k : ℕ) (E E' : ℕ → Bool) → Opens k E E' → (A : LfType) → head_has_patterns E' (open_type k A) ≡ true → head_has_patterns E A ≡ true
  head_opened k E E' o (pi A B) e = both_of (item_has_patterns E A) (head_has_patterns (under E) B) (item_opened k E E' o A (both_l (item_has_patterns E' (open_type k A)) (head_has_patterns (under E') (open_type (suc k) B)) e)) (head_opened (suc k) (under E) (under E') (opens_under k E E' o) B (both_r (item_has_patterns E' (open_type k A)) (head_has_patterns (under E') (open_type (suc k) B)) e))
  head_opened k E E' o (atom a S) e = spine_opened k E E' o S e

-- of an item
pub outer_opens : Opens zero everything nothing
outer_opens = record { inside = λ i e. absurd (no i e); outside = λ i m e. refl }
  where
    no : (i : ℕ) → metavariable i ≡ variable i → ⊥
    no i e = cc
