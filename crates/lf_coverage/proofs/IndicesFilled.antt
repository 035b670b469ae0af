-- An existential variable is replaced by an older one, which is applied to older universal variables first: what existential variables are applied to
-- stays distinct variables that they take.
use Rattle.std.proofs.Common.{◌≡◌, ℕ, zero, suc, ◌⊎◌, List, [], ◌∷◌, inl, inr, refl, sym, ap, ap₂, ◌∙◌, subst, arith}
use Rattle.std.specs.Prelude.{Bool, true, false, not}
use Rattle.lf.specs.Eta.{append, eta_expand}
use Rattle.lf.specs.SkeletonTyping.{HeadSkeletons, SkeletonAt, SpineSkeleton, TermSkeleton, TypeBySkeletons}
use Rattle.lf.specs.Substitution.{Image, keep, put, lift, apply_image, rename_image, substitute, substitute_spine, substitute_type, reduce}
use Rattle.lf.specs.Syntax.{constant, variable, metavariable, Term, Spine, lambda, root, nil, app, LfType, pi, atom, Skeleton, base, arrow, skeleton, lift_renaming, rename_spine}
use Rattle.lf.specs.Variables.{under, hide}
use Rattle.lf.proofs.Checker.{both_of}
use Rattle.lf.proofs.Eta.{eta_both, rename_eta_expand}
use Rattle.lf_unification.proofs.ToSkeletons.{SkeletonAt-once}
use Rattle.lf_checks.specs.Strict.{pattern_arguments}
use Rattle.lf_checks.specs.Tests.{both}
use Rattle.lf_checks.proofs.EtaTest.{both_l, both_r}
use Rattle.lf_coverage.specs.Indices.{head_has_patterns, item_has_patterns, newer, spine_has_patterns, takes, term_has_patterns, universal}
use Rattle.lf_coverage.proofs.IndicesRenamed.{Renames, choice, chosen, may_take, passed_over, renames_hide, renames_under, takes_newer, takes_universal}
use Rattle.lf_coverage.proofs.IndicesTests.{Passes, never_both, not_false, not_true, passes_behind, passes_fixed, passes_from, passes_kept, passes_renamed, passes_test}

-- the variables that v takes and that aren't newer than n
abbrev pub older : (ℕ → Bool) → ℕ → ℕ → ℕ → Bool
older E v n y = both (takes E v y) (not (newer y n))

-- σ puts the variable v, applied to L, for the existential variable n, and renames the others by ρ; what is newer than n stays.
pub record Fills (n v : ℕ) (E E' : ℕ → Bool) (σ : ℕ → Image) (ρ : ℕ → ℕ) (a : Skeleton) (L : Spine) : Type 0 where
  pub renames : Renames E E' ρ
  pub existential : E n ≡ true
  pub to : ρ n ≡ v
  pub here : σ n ≡ put a (eta_expand a (variable v) L)
  pub others : (i : ℕ) → (i ≡ n → ⊥) → σ i ≡ keep (ρ i)
  pub inner : (i : ℕ) → newer i n ≡ true → ρ i ≡ i
  pub applied : Passes (older E' v n) [] L

module _ (n v : ℕ) (E E' : ℕ → Bool) (σ : ℕ → Image) (ρ : ℕ → ℕ) (a : Skeleton) (L : Spine) (f : Fills n v E E' σ ρ a L) where
  lifted_others : (i : ℕ) → (i ≡ suc n → ⊥) → lift σ i ≡ keep (lift_renaming ρ i)
  lifted_others zero h = refl
  lifted_others (suc i) h = ap (rename_image suc) (f.others i (λ e. h (ap suc e)))

  lifted_inner : (i : ℕ) → newer i (suc n) ≡ true → lift_renaming ρ i ≡ i
  lifted_inner zero e = refl
  lifted_inner (suc i) e = ap suc (f.inner i e)

  lifted_applied : (F : ℕ → Bool) → ((y : ℕ) → F (suc y) ≡ E' y) → Passes (older F (suc v) (suc n)) [] (rename_spine suc L)
  lifted_applied F h = passes_renamed (older E' v n) (older F (suc v) (suc n)) suc [] [] L (λ y r. both_of (takes F (suc v) (suc y)) (not (newer y n)) (may_take F (suc v) (suc y) (h y ∙ takes_universal E' v y (both_l (takes E' v y) (not (newer y n)) r)) (takes_newer E' v y (both_l (takes E' v y) (not (newer y n)) r))) (both_r (takes E' v y) (not (newer y n)) r)) (λ x y r s e. omega (arith, e)) (λ y r e. refl) f.applied

  lifted_here : lift σ (suc n) ≡ put a (eta_expand a (variable (suc v)) (rename_spine suc L))
  lifted_here = ap (rename_image suc) f.here ∙ ap (put a) (rename_eta_expand suc a (variable v) L)

  pub fills_hide : Fills (suc n) (suc v) (hide E) (hide E') (lift σ) (lift_renaming ρ) a (rename_spine suc L)
  fills_hide = record { renames = renames_hide E E' ρ f.renames; existential = f.existential; to = ap suc f.to; here = lifted_here; others = lifted_others; inner = lifted_inner; applied = lifted_applied (hide E') (λ y. refl) }

  pub fills_under : Fills (suc n) (suc v) (under E) (under E') (lift σ) (lift_renaming ρ) a (rename_spine suc L)
  fills_under = record { renames = renames_under E E' ρ f.renames; existential = f.existential; to = ap suc f.to; here = lifted_here; others = lifted_others; inner = lifted_inner; applied = lifted_applied (under E') (λ y. refl) }

  -- universal variables are renamed
  kept : (y : ℕ) → E y ≡ false → σ y ≡ keep (ρ y)
  kept y e = f.others y (λ q. never_both (ap E q ∙ f.existential) e)

  pub fill_universal : (S : Spine) → pattern_arguments (universal E) [] S ≡ true → pattern_arguments (universal E') [] (substitute_spine reduce σ S) ≡ true
  fill_universal S e =
      let p : Passes (universal E) [] S = passes_from (universal E) [] S e in
      subst (λ T. pattern_arguments (universal E') [] T ≡ true) (sym (passes_kept (universal E) σ ρ [] S (λ y r. kept y (not_true (E y) r)) p)) (passes_test (universal E') [] (rename_spine ρ S) (passes_renamed (universal E) (universal E') ρ [] [] S (λ y r. not_false (E' (ρ y)) (f.renames.kind y ∙ not_true (E y) r)) (λ x y r s q. f.renames.apart x y (not_true (E x) r) (not_true (E y) s) q) (λ y r g. refl) p))

  fill_taken : (i : ℕ) → E i ≡ true → (S : Spine) → pattern_arguments (takes E i) [] S ≡ true → pattern_arguments (takes E' (ρ i)) [] (substitute_spine reduce σ S) ≡ true
  fill_taken i t S e =
      let p : Passes (takes E i) [] S = passes_from (takes E i) [] S e in
      subst (λ T. pattern_arguments (takes E' (ρ i)) [] T ≡ true) (sym (passes_kept (takes E i) σ ρ [] S (λ y r. kept y (takes_universal E i y r)) p)) (passes_test (takes E' (ρ i)) [] (rename_spine ρ S) (passes_renamed (takes E i) (takes E' (ρ i)) ρ [] [] S (λ y r. may_take E' (ρ i) (ρ y) (f.renames.kind y ∙ takes_universal E i y r) (f.renames.order i y t (takes_universal E i y r) (takes_newer E i y r))) (λ x y r s q. f.renames.apart x y (takes_universal E i x r) (takes_universal E i y s) q) (λ y r g. refl) p))

  -- the arguments of n stay
  fill_here : (S : Spine) → pattern_arguments (takes E n) [] S ≡ true → (substitute_spine reduce σ S ≡ S) × Passes (takes E' v) [] (append L S)
  fill_here S e =
      let p : Passes (takes E n) [] S = passes_from (takes E n) [] S e in (
        passes_kept (takes E n) σ ρ [] S (λ y r. kept y (takes_universal E n y r)) p ∙ passes_fixed (takes E n) ρ [] S (λ y r. f.inner y (takes_newer E n y r)) p,
        passes_behind (older E' v n) (takes E n) (takes E' v) [] L S (λ y r. both_l (takes E' v y) (not (newer y n)) r) (λ y r. subst (λ z. takes E' v z ≡ true) (f.inner y (takes_newer E n y r)) (subst (λ w. takes E' w (ρ y) ≡ true) f.to (may_take E' (ρ n) (ρ y) (f.renames.kind y ∙ takes_universal E n y r) (f.renames.order n y f.existential (takes_universal E n y r) (takes_newer E n y r))))) (λ x y r s q. never_both (subst (λ z. newer z n ≡ true) (sym q) (takes_newer E n y s)) (not_true (newer x n) (both_r (takes E' v x) (not (newer x n)) r))) (λ y r. refl) f.applied p,
      )

  at_here : (κ : HeadSkeletons) (Γ : List Skeleton) → SkeletonAt Γ n a → (S : Spine) (t : Skeleton) (c : ℕ) → SkeletonAt Γ n t → SpineSkeleton κ Γ S t (base c) → pattern_arguments (takes E n) [] S ≡ true → term_has_patterns E' (substitute reduce σ (root (variable n) S)) ≡ true
  at_here κ Γ at S t c g s e =
      let (q, p) = fill_here S e in
      let s' : SpineSkeleton κ Γ S a (base c) = subst (λ u. SpineSkeleton κ Γ S u (base c)) (SkeletonAt-once Γ n t a g at) s in
      let is : substitute reduce σ (root (variable n) S) ≡ root (variable v) (append L S) = ap₂ (λ x T. apply_image reduce x T) f.here q ∙ (eta_both κ a).0 Γ (variable v) L S c s' in
      let ev : E' v ≡ true = ap E' (sym f.to) ∙ f.renames.kind n ∙ f.existential in
      subst (λ M. term_has_patterns E' M ≡ true) (sym is) (chosen (E' v) (pattern_arguments (takes E' v) [] (append L S)) (spine_has_patterns E' (append L S)) ev (passes_test (takes E' v) [] (append L S) p))

  at_other : (i : ℕ) → (i ≡ n → ⊥) → (S : Spine) → (spine_has_patterns E S ≡ true → spine_has_patterns E' (substitute_spine reduce σ S) ≡ true) → ((E i ≡ true) × (pattern_arguments (takes E i) [] S ≡ true)) ⊎ ((E i ≡ false) × (spine_has_patterns E S ≡ true)) → term_has_patterns E' (substitute reduce σ (root (variable i) S)) ≡ true
  at_other i h S g c = subst (λ x. term_has_patterns E' (apply_image reduce x (substitute_spine reduce σ S)) ≡ true) (sym (f.others i h)) (by c)
    where
      by : ((E i ≡ true) × (pattern_arguments (takes E i) [] S ≡ true)) ⊎ ((E i ≡ false) × (spine_has_patterns E S ≡ true)) → term_has_patterns E' (root (variable (ρ i)) (substitute_spine reduce σ S)) ≡ true
      by (inl (t, e)) = chosen (E' (ρ i)) (pattern_arguments (takes E' (ρ i)) [] (substitute_spine reduce σ S)) (spine_has_patterns E' (substitute_spine reduce σ S)) (f.renames.kind i ∙ t) (fill_taken i t S e)
      by (inr (u, e)) = passed_over (E' (ρ i)) (pattern_arguments (takes E' (ρ i)) [] (substitute_spine reduce σ S)) (spine_has_patterns E' (substitute_spine reduce σ S)) (f.renames.kind i ∙ u) (g e)

  at_any : (κ : HeadSkeletons) (Γ : List Skeleton) → SkeletonAt Γ n a → (i : ℕ) (S : Spine) (t : Skeleton) (c : ℕ) → SkeletonAt Γ i t → SpineSkeleton κ Γ S t (base c) → (spine_has_patterns E S ≡ true → spine_has_patterns E' (substitute_spine reduce σ S) ≡ true) → (i ≡ n) ⊎ (i ≡ n → ⊥) → term_has_patterns E (root (variable i) S) ≡ true → term_has_patterns E' (substitute reduce σ (root (variable i) S)) ≡ true
  at_any κ Γ at i S t c g s h (inr k) e = at_other i k S h (choice (E i) (pattern_arguments (takes E i) [] S) (spine_has_patterns E S) e)
  at_any κ Γ at i S t c g s h (inl q) e = subst (λ j. term_has_patterns E' (substitute reduce σ (root (variable j) S)) ≡ true) (sym q) (at_here κ Γ at S t c (subst (λ j. SkeletonAt Γ j t) q g) s (by (choice (E i) (pattern_arguments (takes E i) [] S) (spine_has_patterns E S) e)))
    where
      by : ((E i ≡ true) × (pattern_arguments (takes E i) [] S ≡ true)) ⊎ ((E i ≡ false) × (spine_has_patterns E S ≡ true)) → pattern_arguments (takes E n) [] S ≡ true
      by (inl (t, e)) = subst (λ j. pattern_arguments (takes E j) [] S ≡ true) q e
      by (inr (u, e)) = never_both (ap E q ∙ f.existential) u

same_or_not : (i n : ℕ) → (i ≡ n) ⊎ (i ≡ n → ⊥)
same_or_not zero zero = inl refl
same_or_not zero (suc n) = inr (λ e. omega (arith, e))
same_or_not (suc i) zero = inr (λ e. omega (arith, e))
same_or_not (suc i) (suc n) = by (same_or_not i n)
  where
    by : (i ≡ n) ⊎ (i ≡ n → ⊥) → (suc i ≡ suc n) ⊎ (suc i ≡ suc n → ⊥)
    by (inl e) = inl (ap suc e)
    by (inr h) = inr (λ e. h (omega (arith, e)))

module _ (κ : HeadSkeletons) where
  mutual
    pub term_filled : (n v : ℕ) (E E' : ℕ → Bool) (σ : ℕ → Image) (ρ : ℕ → ℕ) (a : Skeleton) (L : Spine) → Fills n v E E' σ ρ a L → (Γ : List Skeleton) → SkeletonAt Γ n a → (M : Term) (t : Skeleton) → TermSkeleton κ Γ M t → term_has_patterns E M ≡ true → term_has_patterns E' (substitute reduce σ M) ≡ true
    term_filled n v E E' σ ρ a L f Γ at (lambda M) (arrow c d) s e = term_filled (suc n) (suc v) (hide E) (hide E') (lift σ) (lift_renaming ρ) a (rename_spine suc L) (fills_hide n v E E' σ ρ a L f) (c ∷ Γ) at M d s e
    term_filled n v E E' σ ρ a L f Γ at (lambda M) (base c) s e = absurd s
    term_filled n v E E' σ ρ a L f Γ at (root h S) (arrow c d) s e = absurd s
    term_filled n v E E' σ ρ a L f Γ at (root (constant k) S) (base c) (t, q, s) e = spine_filled n v E E' σ ρ a L f Γ at S t (base c) s e
    term_filled n v E E' σ ρ a L f Γ at (root (metavariable m) S) (base c) (t, q, s) e = fill_universal n v E E' σ ρ a L f S e
    term_filled n v E E' σ ρ a L f Γ at (root (variable i) S) (base c) (t, g, s) e = at_any n v E E' σ ρ a L f κ Γ at i S t c g s (spine_filled n v E E' σ ρ a L f Γ at S t (base c) s) (same_or_not i n) e

    pub spine_filled : (n v : ℕ) (E E' : ℕ → Bool) (σ : ℕ → Image) (ρ : ℕ → ℕ) (a : Skeleton) (L : Spine) → Fills n v E E' σ ρ a L → (Γ : List Skeleton) → SkeletonAt Γ n a → (S : Spine) (t u : Skeleton) → SpineSkeleton κ Γ S t u → spine_has_patterns E S ≡ true → spine_has_patterns E' (substitute_spine reduce σ S) ≡ true
    spine_filled n v E E' σ ρ a L f Γ at nil t u s e = refl
    spine_filled n v E E' σ ρ a L f Γ at (app M S) (arrow c d) u (m, s) e = both_of (term_has_patterns E' (substitute reduce σ M)) (spine_has_patterns E' (substitute_spine reduce σ S)) (term_filled n v E E' σ ρ a L f Γ at M c m (both_l (term_has_patterns E M) (spine_has_patterns E S) e)) (spine_filled n v E E' σ ρ a L f Γ at S d u s (both_r (term_has_patterns E M) (spine_has_patterns E S) e))
    spine_filled n v E E' σ ρ a L f Γ at (app M S) (base c) u s e = absurd s

  mutual
    pub item_filled : (φ : ℕ → Rattle.std.specs.Prelude.Option Skeleton) (n v : ℕ) (E E' : ℕ → Bool) (σ : ℕ → Image) (ρ : ℕ → ℕ) (a : Skeleton) (L : Spine) → Fills n v E E' σ ρ a L → (Γ : List Skeleton) → SkeletonAt Γ n a → (A : LfType) → TypeBySkeletons φ κ Γ A → item_has_patterns E A ≡ true → item_has_patterns E' (substitute_type reduce σ A) ≡ true
    item_filled φ n v E E' σ ρ a L f Γ at (pi A B) (s, t) e = both_of (head_has_patterns E' (substitute_type reduce σ A)) (item_has_patterns (hide E') (substitute_type reduce (lift σ) B)) (head_filled φ n v E E' σ ρ a L f Γ at A s (both_l (head_has_patterns E A) (item_has_patterns (hide E) B) e)) (item_filled φ (suc n) (suc v) (hide E) (hide E') (lift σ) (lift_renaming ρ) a (rename_spine suc L) (fills_hide n v E E' σ ρ a L f) (skeleton A ∷ Γ) at B t (both_r (head_has_patterns E A) (item_has_patterns (hide E) B) e))
    item_filled φ n v E E' σ ρ a L f Γ at (atom k S) (t, q, s) e = spine_filled n v E E' σ ρ a L f Γ at S t (base k) s e

    pub head_filled : (φ : ℕ → Rattle.std.specs.Prelude.Option Skeleton) (n v : ℕ) (E E' : ℕ → Bool) (σ : ℕ → Image) (ρ : ℕ → ℕ) (a : Skeleton) (L : Spine) → Fills n v E E' σ ρ a L → (Γ : List Skeleton) → SkeletonAt Γ n a → (A : LfType) → TypeBySkeletons φ κ Γ A → head_has_patterns E A ≡ true → head_has_patterns E' (substitute_type reduce σ A) ≡ true
    head_filled φ n v E E' σ ρ a L f Γ at (pi A B) (s, t) e = both_of (item_has_patterns E' (substitute_type reduce σ A)) (head_has_patterns (under E') (substitute_type reduce (lift σ) B)) (item_filled φ n v E E' σ ρ a L f Γ at A s (both_l (item_has_patterns E A) (head_has_patterns (under E) B) e)) (head_filled φ (suc n) (suc v) (under E) (under E') (lift σ) (lift_renaming ρ) a (rename_spine suc L) (fills_under n v E E' σ ρ a L f) (skeleton A ∷ Γ) at B t (both_r (item_has_patterns E A) (head_has_patterns (under E) B) e))
    head_filled φ n v E E' σ ρ a L f Γ at (atom k S) (t, q, s) e = spine_filled n v E E' σ ρ a L f Γ at S t (base k) s e
