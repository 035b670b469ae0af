-- A strict occurrence stays strict where constants are put in for fixed variables.
use Rattle.std.proofs.Common.{◌≡◌, ℕ, zero, suc, List, [], ◌∷◌, inl, inr, refl, sym, ap, ap₂, ◌∙◌, subst}
use Rattle.std.specs.Prelude.{Bool, true, false, not, Option, Some, None, ◌⊎◌}
use Rattle.lf.specs.Syntax.{constant, variable, metavariable, Term, Spine, lambda, root, nil, app, LfType, pi, atom, Skeleton, base, arrow, skeleton, rename_spine}
use Rattle.lf.specs.Substitution.{Image, keep, put, rename_image, lift, apply_image, substitute, substitute_spine, substitute_type, reduce}
use Rattle.lf.specs.SkeletonTyping.{HeadSkeletons, ImageSkeleton, TermSkeleton, SpineSkeleton, TypeBySkeletons, SubstitutionBySkeletons}
use Rattle.lf.specs.Eta.{append, eta_expand}
use Rattle.lf.specs.Variables.{under, hide, same_number}
use Rattle.lf.proofs.Checker.{number_is, both_of}
use Rattle.lf.proofs.Eta.{rename_eta_expand, substitute_eta_expand, eta_both}
use Rattle.lf.proofs.SkeletonTyping.{lift_by_skeletons, substitution_keeps_spine_skeletons}
use Rattle.lf_checks.specs.Tests.{both, either, is_in}
use Rattle.lf_checks.specs.Strict.{head_variable, is_bound, with_seen, pattern_arguments, eta_at, strict, strict_spine, strict_at, strict_goal}
use Rattle.lf_checks.proofs.EtaTest.{both_l, both_r, is_eta}
use Rattle.lf_checks.proofs.StrictTypes.{either_cases}
use Rattle.lf_cases.proofs.GroundTypes.{either_left}
use Rattle.lf_totality.proofs.OutputCases.{either_in}

module _ (κ : HeadSkeletons) where
  -- Bound variables and x stay, and each fixed variable becomes a constant, eta-long.
  pub record Places (B F : ℕ → Bool) (x : ℕ) (Γ Δ : List Skeleton) (σ : ℕ → Image) : Type 0 where
    pub bound : (j : ℕ) → B j ≡ true → σ j ≡ keep j
    pub fixed : (j : ℕ) → F j ≡ true → (a : Skeleton) × (c : ℕ) × (U : Spine) × (σ j ≡ put a (eta_expand a (constant c) U))
    pub itself : σ x ≡ keep x
    pub fits : SubstitutionBySkeletons κ Γ Δ σ

  places_under : (B F : ℕ → Bool) (x : ℕ) (Γ Δ : List Skeleton) (σ : ℕ → Image) (a : Skeleton) → Places B F x Γ Δ σ → Places (under B) (hide F) (suc x) (a ∷ Γ) (a ∷ Δ) (lift σ)
  places_under B F x Γ Δ σ a p = record { bound = bound; fixed = fixed; itself = ap (rename_image suc) p.itself; fits = lift_by_skeletons κ a Γ Δ σ p.fits }
    where
      bound : (j : ℕ) → under B j ≡ true → lift σ j ≡ keep j
      bound zero e = refl
      bound (suc j) e = ap (rename_image suc) (p.bound j e)

      fixed : (j : ℕ) → hide F j ≡ true → (b : Skeleton) × (c : ℕ) × (U : Spine) × (lift σ j ≡ put b (eta_expand b (constant c) U))
      fixed zero e = absurd cc
      fixed (suc j) e = let (b, c, U, q) = p.fixed j e in (b, c, rename_spine suc U, ap (rename_image suc) q ∙ ap (put b) (rename_eta_expand suc b (constant c) U))

  -- the arguments of a pattern stay
  arguments_stay : (B : ℕ → Bool) (σ : ℕ → Image) → ((j : ℕ) → B j ≡ true → σ j ≡ keep j) → (seen : List ℕ) (T : Spine) → pattern_arguments B seen T ≡ true → substitute_spine reduce σ T ≡ T
  arguments_stay B σ h seen nil e = refl
  arguments_stay B σ h seen (app M T) e = ap₂ app (by (head_variable zero M) (both_l (is_bound B seen M (head_variable zero M)) (pattern_arguments B (with_seen (head_variable zero M) seen) T) e)) (arguments_stay B σ h (with_seen (head_variable zero M) seen) T (both_r (is_bound B seen M (head_variable zero M)) (pattern_arguments B (with_seen (head_variable zero M) seen) T) e))
    where
      by : (y : Option ℕ) → is_bound B seen M y ≡ true → substitute reduce σ M ≡ M
      by None q = absurd cc
      by (Some y) q =
          let (b, m) = is_eta y M (both_l (eta_at zero y M) (both (B y) (not (is_in y seen))) q) in
          ap (substitute reduce σ) m ∙ substitute_eta_expand σ b (variable y) (variable y) nil (h y (both_l (B y) (not (is_in y seen)) (both_r (eta_at zero y M) (both (B y) (not (is_in y seen))) q))) ∙ sym m

  strict_behind : (B F : ℕ → Bool) (x : ℕ) (U T : Spine) → strict_spine B F x T ≡ true → strict_spine B F x (append U T) ≡ true
  strict_behind B F x nil T e = e
  strict_behind B F x (app M U) T e = either_in (strict B F x M) (strict_behind B F x U T e)

  mutual
    strict_put : (B F F' : ℕ → Bool) (x : ℕ) (Γ Δ : List Skeleton) (σ : ℕ → Image) (Q : Term) (t : Skeleton) → Places B F x Γ Δ σ → TermSkeleton κ Γ Q t → strict B F x Q ≡ true → strict B F' x (substitute reduce σ Q) ≡ true
    strict_put B F F' x Γ Δ σ (lambda Q) (arrow a b) p q e = strict_put (under B) (hide F) (hide F') (suc x) (a ∷ Γ) (a ∷ Δ) (lift σ) Q b (places_under B F x Γ Δ σ a p) q e
    strict_put B F F' x Γ Δ σ (lambda Q) (base d) p q e = absurd q
    strict_put B F F' x Γ Δ σ (root k S) (arrow a b) p q e = absurd q
    strict_put B F F' x Γ Δ σ (root (constant c) S) (base d) p (t, g, s) e = strict_spine_put B F F' x Γ Δ σ S t (base d) p s e
    strict_put B F F' x Γ Δ σ (root (metavariable m) S) (base d) p q e = absurd cc
    strict_put B F F' x Γ Δ σ (root (variable j) S) (base d) p (t, g, s) e = by (either_cases (both (same_number j x) (pattern_arguments B [] S)) (both (either (B j) (F j)) (strict_spine B F x S)) e) (λ r. strict_spine_put B F F' x Γ Δ σ S t (base d) p s r)
      where
        kept : σ j ≡ keep j → strict B F' x (root (variable j) (substitute_spine reduce σ S)) ≡ true → strict B F' x (apply_image reduce (σ j) (substitute_spine reduce σ S)) ≡ true
        kept q r = subst (λ y. strict B F' x (apply_image reduce y (substitute_spine reduce σ S)) ≡ true) (sym q) r

        placed : (b : Skeleton) (c : ℕ) (U : Spine) → σ j ≡ put b (eta_expand b (constant c) U) → strict_spine B F' x (substitute_spine reduce σ S) ≡ true → strict B F' x (apply_image reduce (σ j) (substitute_spine reduce σ S)) ≡ true
        placed b c U q r =
            let (i, n) = subst (λ y. ImageSkeleton κ Δ y t) q (p.fits j t g) in
            let s' : SpineSkeleton κ Δ (substitute_spine reduce σ S) b (base d) = subst (λ u. SpineSkeleton κ Δ (substitute_spine reduce σ S) u (base d)) (sym i) (substitution_keeps_spine_skeletons κ Γ Δ σ S t (base d) p.fits s) in
            subst (λ M. strict B F' x M ≡ true) (sym (ap (λ y. apply_image reduce y (substitute_spine reduce σ S)) q ∙ (eta_both κ b).0 Δ (constant c) U (substitute_spine reduce σ S) d s')) (strict_behind B F' x U (substitute_spine reduce σ S) r)

        by : (both (same_number j x) (pattern_arguments B [] S) ≡ true) ⊎ (both (either (B j) (F j)) (strict_spine B F x S) ≡ true) → (strict_spine B F x S ≡ true → strict_spine B F' x (substitute_spine reduce σ S) ≡ true) → strict B F' x (apply_image reduce (σ j) (substitute_spine reduce σ S)) ≡ true
        by (inl r) ih =
            let i = number_is j x (both_l (same_number j x) (pattern_arguments B [] S) r) in
            let a = arguments_stay B σ p.bound [] S (both_r (same_number j x) (pattern_arguments B [] S) r) in
            kept (ap σ i ∙ p.itself ∙ ap keep (sym i)) (either_left (both (either (B j) (F' j)) (strict_spine B F' x (substitute_spine reduce σ S))) (subst (λ T. both (same_number j x) (pattern_arguments B [] T) ≡ true) (sym a) r))
        by (inr r) ih = or (either_cases (B j) (F j) (both_l (either (B j) (F j)) (strict_spine B F x S) r)) (ih (both_r (either (B j) (F j)) (strict_spine B F x S) r))
          where
            or : (B j ≡ true) ⊎ (F j ≡ true) → strict_spine B F' x (substitute_spine reduce σ S) ≡ true → strict B F' x (apply_image reduce (σ j) (substitute_spine reduce σ S)) ≡ true
            or (inl u) h = kept (p.bound j u) (either_in (both (same_number j x) (pattern_arguments B [] (substitute_spine reduce σ S))) (both_of (either (B j) (F' j)) (strict_spine B F' x (substitute_spine reduce σ S)) (either_left (F' j) u) h))
            or (inr u) h = let (b, c, U, q) = p.fixed j u in placed b c U q h

    strict_spine_put : (B F F' : ℕ → Bool) (x : ℕ) (Γ Δ : List Skeleton) (σ : ℕ → Image) (S : Spine) (t u : Skeleton) → Places B F x Γ Δ σ → SpineSkeleton κ Γ S t u → strict_spine B F x S ≡ true → strict_spine B F' x (substitute_spine reduce σ S) ≡ true
    strict_spine_put B F F' x Γ Δ σ nil t u p s e = absurd cc
    strict_spine_put B F F' x Γ Δ σ (app M S) (base d) u p s e = absurd s
    strict_spine_put B F F' x Γ Δ σ (app M S) (arrow a b) u p (m, s) e = by (either_cases (strict B F x M) (strict_spine B F x S) e) (λ r. strict_put B F F' x Γ Δ σ M a p m r) (λ r. strict_spine_put B F F' x Γ Δ σ S b u p s r)
      where
        by : (strict B F x M ≡ true) ⊎ (strict_spine B F x S ≡ true) → (strict B F x M ≡ true → strict B F' x (substitute reduce σ M) ≡ true) → (strict_spine B F x S ≡ true → strict_spine B F' x (substitute_spine reduce σ S) ≡ true) → either (strict B F' x (substitute reduce σ M)) (strict_spine B F' x (substitute_spine reduce σ S)) ≡ true
        by (inl r) f g = either_left (strict_spine B F' x (substitute_spine reduce σ S)) (f r)
        by (inr r) f g = either_in (strict B F' x (substitute reduce σ M)) (g r)

  strict_at_put : (m : List Bool) (B F F' : ℕ → Bool) (x : ℕ) (Γ Δ : List Skeleton) (σ : ℕ → Image) (S : Spine) (t u : Skeleton) → Places B F x Γ Δ σ → SpineSkeleton κ Γ S t u → strict_at m B F x S ≡ true → strict_at m B F' x (substitute_spine reduce σ S) ≡ true
  strict_at_put [] B F F' x Γ Δ σ S t u p s e = absurd cc
  strict_at_put (b ∷ m) B F F' x Γ Δ σ nil t u p s e = absurd cc
  strict_at_put (b ∷ m) B F F' x Γ Δ σ (app M S) (base d) u p s e = absurd s
  strict_at_put (false ∷ m) B F F' x Γ Δ σ (app M S) (arrow a b) u p (n, s) e = strict_at_put m B F F' x Γ Δ σ S b u p s e
  strict_at_put (true ∷ m) B F F' x Γ Δ σ (app M S) (arrow a b) u p (n, s) e = by (either_cases (strict B F x M) (strict_at m B F x S) e) (λ r. strict_at_put m B F F' x Γ Δ σ S b u p s r)
    where
      by : (strict B F x M ≡ true) ⊎ (strict_at m B F x S ≡ true) → (strict_at m B F x S ≡ true → strict_at m B F' x (substitute_spine reduce σ S) ≡ true) → either (strict B F' x (substitute reduce σ M)) (strict_at m B F' x (substitute_spine reduce σ S)) ≡ true
      by (inl r) g = either_left (strict_at m B F' x (substitute_spine reduce σ S)) (strict_put B F F' x Γ Δ σ M a p n r)
      by (inr r) g = either_in (strict B F' x (substitute reduce σ M)) (g r)

  -- of a goal
  pub strict_goal_put : (φ : ℕ → Option Skeleton) (m : List Bool) (B F F' : ℕ → Bool) (x : ℕ) (Γ Δ : List Skeleton) (σ : ℕ → Image) (A : LfType) → Places B F x Γ Δ σ → TypeBySkeletons φ κ Γ A → strict_goal m B F x A ≡ true → strict_goal m B F' x (substitute_type reduce σ A) ≡ true
  strict_goal_put φ m B F F' x Γ Δ σ (pi A C) p (a, c) e = strict_goal_put φ m (under B) (hide F) (hide F') (suc x) (skeleton A ∷ Γ) (skeleton A ∷ Δ) (lift σ) C (places_under B F x Γ Δ σ (skeleton A) p) c e
  strict_goal_put φ m B F F' x Γ Δ σ (atom d S) p (t, g, s) e = strict_at_put m B F F' x Γ Δ σ S t (base d) p s e
