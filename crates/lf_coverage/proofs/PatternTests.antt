-- Distinct bound variables pass the test of a pattern.
use Rattle.std.proofs.Common.{◌≡◌, ℕ, zero, suc, List, [], ◌∷◌, length, inl, inr, refl, sym, ap, ◌∙◌, subst, arith}
use Rattle.std.specs.Prelude.{◌<◌, ◌⊎◌, Bool, true, false, not, Some}
use Rattle.lf.specs.Eta.{add_last, eta_expand, eta_long}
use Rattle.lf.specs.SkeletonTyping.{SkeletonAt}
use Rattle.lf.specs.Syntax.{constant, variable, metavariable, Term, Spine, lambda, root, nil, app, Skeleton, base, arrow, lift_renaming, rename, rename_spine}
use Rattle.lf.specs.Variables.{same_number}
use Rattle.lf.proofs.Checker.{number_itself, both_of}
use Rattle.lf_unification.specs.Patterns.{Injective, PatternFits, extend_renaming, past, pattern, pattern_renaming}
use Rattle.lf_unification.proofs.Patterns.{past_rename}
use Rattle.lf_checks.specs.Strict.{eta_at, head_variable, is_bound, lower, new_arguments, pattern_arguments, with_seen}
use Rattle.lf_checks.specs.Tests.{both, either, is_in}
use Rattle.lf_checks.proofs.EtaTest.{both_l, both_r}
use Rattle.lf_checks.proofs.Reach.{number_equal}
use Rattle.lf_coverage.specs.PatternStores.{AreDistinct}
use Rattle.lf_coverage.specs.TermMatching.{bound, over}
use Rattle.lf_coverage.proofs.PatternEta.{past_suc}

-- the test for an eta-long variable goes along with renaming
abbrev Fixes : ℕ → (ℕ → ℕ) → Type 0
Fixes k ρ = (i : ℕ) → i < k → ρ i ≡ i

fixes_under : (k : ℕ) (ρ : ℕ → ℕ) → Fixes k ρ → Fixes (suc k) (lift_renaming ρ)
fixes_under k ρ h zero l = refl
fixes_under k ρ h (suc i) l = ap suc (h i (omega arith))

mutual
  eta_renamed : (k y : ℕ) (ρ : ℕ → ℕ) (M : Term) → Fixes k ρ → eta_at k y M ≡ true → eta_at k (ρ y) (rename ρ M) ≡ true
  eta_renamed k y ρ (lambda M) h e = eta_renamed (suc k) (suc y) (lift_renaming ρ) M (fixes_under k ρ h) e
  eta_renamed k y ρ (root (constant c) S) h e = absurd cc
  eta_renamed k y ρ (root (metavariable m) S) h e = absurd cc
  eta_renamed k y ρ (root (variable j) S) h e = both_of (same_number (ρ j) (ρ y)) (new_arguments k (rename_spine ρ S)) (subst (λ z. same_number (ρ z) (ρ y) ≡ true) (sym (number_equal j y (both_l (same_number j y) (new_arguments k S) e))) (number_itself (ρ y))) (new_renamed k k ρ S (bounded k) h (both_r (same_number j y) (new_arguments k S) e))
    where
      bounded : (k : ℕ) → k < suc k
      bounded k = omega arith

  new_renamed : (n k : ℕ) (ρ : ℕ → ℕ) (S : Spine) → n < suc k → Fixes k ρ → new_arguments n S ≡ true → new_arguments n (rename_spine ρ S) ≡ true
  new_renamed zero k ρ nil l h e = refl
  new_renamed zero k ρ (app M S) l h e = absurd cc
  new_renamed (suc n) k ρ nil l h e = absurd cc
  new_renamed (suc n) k ρ (app M S) l h e = both_of (eta_at zero n (rename ρ M)) (new_arguments n (rename_spine ρ S)) (subst (λ z. eta_at zero z (rename ρ M) ≡ true) (fixed n k ρ h (omega arith)) (eta_renamed zero n ρ M (none ρ) (both_l (eta_at zero n M) (new_arguments n S) e))) (new_renamed n k ρ S (omega arith) h (both_r (eta_at zero n M) (new_arguments n S) e))
    where
      none : (ρ : ℕ → ℕ) → Fixes zero ρ
      none ρ i l = absurd (omega (arith, l))

      fixed : (n k : ℕ) (ρ : ℕ → ℕ) → Fixes k ρ → n < k → ρ n ≡ n
      fixed n k ρ h l = h n l

none_fixed : (ρ : ℕ → ℕ) → Fixes zero ρ
none_fixed ρ i l = absurd (omega (arith, l))

new_next : (n : ℕ) (S : Spine) (N : Term) → new_arguments n S ≡ true → eta_at zero zero N ≡ true → new_arguments (suc n) (add_last (rename_spine suc S) N) ≡ true
new_next zero nil N e h = both_of (eta_at zero zero N) true h refl
new_next zero (app M S) N e h = absurd cc
new_next (suc n) nil N e h = absurd cc
new_next (suc n) (app M S) N e h = both_of (eta_at zero (suc n) (rename suc M)) (new_arguments (suc n) (add_last (rename_spine suc S) N)) (eta_renamed zero n suc M (none_fixed suc) (both_l (eta_at zero n M) (new_arguments n S) e)) (new_next n S N (both_r (eta_at zero n M) (new_arguments n S) e) h)

pub eta_passes : (a : Skeleton) (n y : ℕ) (S : Spine) → new_arguments n S ≡ true → eta_at n y (eta_expand a (variable y) S) ≡ true
eta_passes (base c) n y S e = both_of (same_number y y) (new_arguments n S) (number_itself y) e
eta_passes (arrow a b) n y S e = eta_passes b (suc n) (suc y) (add_last (rename_spine suc S) (eta_expand a (variable zero) nil)) (new_next n S (eta_expand a (variable zero) nil) e (eta_passes a zero zero nil refl))

pub eta_head : (a : Skeleton) (n i : ℕ) (S : Spine) → head_variable n (eta_expand a (variable i) S) ≡ lower n i
eta_head (base c) n i S = refl
eta_head (arrow a b) n i S = eta_head b (suc n) (suc i) _

-- what stands outside is told apart
past_apart : (t : Skeleton) (j : ℕ) → past t zero ≡ past t (suc j) → ⊥
past_apart (base c) j e = omega arith
past_apart (arrow a b) j e = past_apart b j (less (sym (past_suc b zero) ∙ e ∙ past_suc b (suc j)))
  where
    less : {m n : ℕ} → suc m ≡ suc n → m ≡ n
    less e = omega arith

bound_in : (Γ : List Skeleton) (x : ℕ) (a : Skeleton) → SkeletonAt Γ x a → bound (length Γ) x ≡ true
bound_in [] x a h = absurd h
bound_in (b ∷ Γ) zero a h = refl
bound_in (b ∷ Γ) (suc x) a h = bound_in Γ x a h

either_of : (a b : Bool) → either a b ≡ true → (a ≡ true) ⊎ (b ≡ true)
either_of true b e = inl refl
either_of false b e = inr e

not_of : (b : Bool) → (b ≡ true → ⊥) → not b ≡ true
not_of true h = absurd (h refl)
not_of false h = refl

passes : (Γ : List Skeleton) (t : Skeleton) (xs : List ℕ) (τ : ℕ → ℕ) (seen : List ℕ) → PatternFits Γ t xs → Injective (pattern_renaming t xs τ) → ((y : ℕ) → is_in y seen ≡ true → (j : ℕ) × (τ j ≡ y)) → pattern_arguments (bound (length Γ)) seen (pattern t xs) ≡ true
passes Γ (base c) xs τ seen p d h = refl
passes Γ (arrow a b) [] τ seen p d h = absurd p
passes Γ (arrow a b) (x ∷ xs) τ seen (e, p) d h =
    let M : Term = eta_long a (variable x) in
    let B : ℕ → Bool = bound (length Γ) in
    let here : is_bound B seen M (Some x) ≡ true = both_of (eta_at zero x M) (both (B x) (not (is_in x seen))) (eta_passes a zero x nil refl) (both_of (B x) (not (is_in x seen)) (bound_in Γ x a e) (not_of (is_in x seen) (λ z. let (j, q) = h x z in past_apart b j (d (past b zero) (past b (suc j)) (past_rename Γ b xs (extend_renaming x τ) zero p ∙ sym q ∙ sym (past_rename Γ b xs (extend_renaming x τ) (suc j) p)))))) in
    let first : is_bound B seen M (head_variable zero M) ≡ true = subst (λ o. is_bound B seen M o ≡ true) (sym (eta_head a zero x nil)) here in
    both_of (is_bound B seen M (head_variable zero M)) (pattern_arguments B (with_seen (head_variable zero M) seen) (pattern b xs)) first (subst (λ o. pattern_arguments B (with_seen o seen) (pattern b xs) ≡ true) (sym (eta_head a zero x nil)) (passes Γ b xs (extend_renaming x τ) (x ∷ seen) p d next))
  where
    next : (y : ℕ) → is_in y (x ∷ seen) ≡ true → (j : ℕ) × (extend_renaming x τ j ≡ y)
    next y z = by (either_of (same_number y x) (is_in y seen) z)
      where
        by : (same_number y x ≡ true) ⊎ (is_in y seen ≡ true) → (j : ℕ) × (extend_renaming x τ j ≡ y)
        by (inl q) = (zero, sym (number_equal y x q))
        by (inr q) = let (j, r) = h y q in (suc j, r)

pub distinct_pass : (Γ : List Skeleton) (t : Skeleton) (S : Spine) → AreDistinct Γ t S → pattern_arguments (bound (length Γ)) [] S ≡ true
distinct_pass Γ t S d = subst (λ T. pattern_arguments (bound (length Γ)) [] T ≡ true) (sym d.same) (passes Γ t d.variables (over (length Γ)) [] d.places d.distinct (λ y z. absurd (no z)))
  where
    no : false ≡ true → ⊥
    no e = cc
