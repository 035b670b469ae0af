-- A value that stands at a strict occurrence mentions only what the instance does: so the `some` terms of a block, each with
-- a strict occurrence in an entry, mention only variables of the entries' types.
use Rattle.lf_checks.specs.Order.{KeepsVariables}
use Rattle.lf_checks.specs.Strict.{head_variable, is_bound, pattern_arguments, with_seen, strict, strict_spine}
use Rattle.lf_checks.specs.Tests.{both, either}
use Rattle.std.proofs.Common.{◌≡◌, ℕ, zero, suc, List, [], ◌∷◌, refl, sym, ap, ◌∙◌, subst, inl, inr}
use Rattle.std.specs.Prelude.{Bool, true, Option, ◌⊎◌}
use Rattle.lf.specs.Syntax.{constant, variable, metavariable, Term, Spine, lambda, root, nil, app, LfType, pi, atom, Skeleton, base, arrow, skeleton, rename}
use Rattle.lf.specs.Substitution.{Image, keep, put, rename_image, lift, single, apply_image, substitute, substitute_spine, reduce}
use Rattle.lf.specs.SkeletonTyping.{SkeletonAt, TermSkeleton, ImageSkeleton, SubstitutionBySkeletons}
use Rattle.lf.specs.Typing.{Signature, instantiate_type, HasType, SpineType, IsType, IsContext, IsSignature}
use Rattle.lf.specs.Variables.{under, Uses, UsesSpine, same_number, hide, at_variable}
use Rattle.lf.specs.Eta.{eta_long}
use Rattle.lf.proofs.Renaming.{reduction_beta}
use Rattle.lf.proofs.TypeLaws.{skeleton_substituted}
use Rattle.lf.specs.Skeletons.{constant_skeletons, context_skeletons}
use Rattle.lf.proofs.ToSkeletons.{variable_has_skeleton}
use Rattle.lf.proofs.Weakening.{declared_is_type}
use Rattle.lf.proofs.Substitution.{instance_is_type, constant_type}
use Rattle.lf.proofs.SkeletonTyping.{renaming_keeps_skeletons, lift_by_skeletons}
use Rattle.lf.proofs.Eta.{EtaLike, Fits, eta_renames, reduce_nil, substitute_eta_expand}
use Rattle.lf.proofs.EtaTypes.{SameForm, eta_form, eta_spine, eta_at_type}
use Rattle.lf_checks.proofs.EtaTest.{both_l, both_r}
use Rattle.lf.proofs.Kept.{uses_unren}
use Rattle.lf_checks.proofs.StrictTypes.{either_cases, bound_argument}
use Rattle.lf_checks.proofs.Sizes.{kept_lift}

module _ (Σ : Signature) (ok : IsSignature Σ) where
  -- a term applied to eta-long variables mentions what it did
  argument_back : (Δ : List Skeleton) (V : ℕ → Bool) (s1 s2 : Skeleton) (b : Skeleton) (k : ℕ) (N : Term) → TermSkeleton (constant_skeletons Σ) (s1 ∷ Δ) N s2 → SkeletonAt Δ k s1 → SameForm b s1 → substitute reduce (single s1 (eta_long b (variable k))) N ≡ rename (at_variable k) N
  argument_back Δ V s1 s2 b k N n g f = eta_renames (constant_skeletons Σ) (s1 ∷ Δ) Δ (single s1 (eta_long b (variable k))) (at_variable k) N s2 like fit renames n
    where
      like : EtaLike (λ c. Unit {0}) (single s1 (eta_long b (variable k))) (at_variable k)
      like zero = (tt, eta_form b s1 (variable k) nil f)
      like (suc i) = refl

      fit : Fits (s1 ∷ Δ) (single s1 (eta_long b (variable k)))
      fit zero t e = e
      fit (suc i) t e = tt

      renames : (i : ℕ) (t : Skeleton) → SkeletonAt (s1 ∷ Δ) i t → SkeletonAt Δ (at_variable k i) t
      renames zero t e = subst (SkeletonAt Δ k) e g
      renames (suc i) t e = e

  uses_back : (B V : ℕ → Bool) (C : List LfType) (Δ : List Skeleton) (σ : ℕ → Image) (seen : List ℕ) (S : Spine) (A Z : LfType) (a : Skeleton) (N : Term) → IsContext Σ C → IsType Σ C A → SubstitutionBySkeletons (constant_skeletons Σ) (context_skeletons C) Δ σ → KeepsVariables B σ → SpineType Σ C S A Z → pattern_arguments B seen S ≡ true → skeleton A ≡ a → TermSkeleton (constant_skeletons Σ) Δ N a → Uses V (reduce a N (substitute_spine reduce σ S)) → Uses V N
  uses_back B V C Δ σ seen nil A Z a N c t w kb s e q n u = subst (Uses V) (reduce_nil a N) u
  uses_back B V C Δ σ seen (app M S) (atom d T) Z a N c t w kb s e q n u = absurd s
  uses_back B V C Δ σ seen (app M S) (pi A1 A2) Z (base d) N c t w kb s e q n u = absurd cc
  uses_back B V C Δ σ seen (app M S) (pi A1 A2) Z (arrow s1 s2) (root h T) c t w kb s e q n u = absurd n
  uses_back B V C Δ σ seen (app M S) (pi A1 A2) Z (arrow s1 s2) (lambda N) c (t1, t2) w kb (m, s) e q n u =
      let o : Option ℕ = head_variable zero M in
      let (y, b, by, me) = bound_argument Σ ok B seen M o (both_l (is_bound B seen M o) (pattern_arguments B (with_seen o seen) S) e) in
      let (k, ke) = kb y by in
      let m' : HasType Σ C (eta_long b (variable y)) A1 = subst (λ X. HasType Σ C X A1) me m in
      let (Y, g) = eta_at_type Σ ok b C y nil A1 m' in
      let (f, yw) = eta_spine Σ ok b C y nil Y A1 c g t1 m' in
      let q1 : skeleton A1 ≡ s1 = cc in
      let q2 : skeleton A2 ≡ s2 = cc in
      let sy : SkeletonAt Δ k s1 = subst (λ x. ImageSkeleton (constant_skeletons Σ) Δ x s1) ke (w y s1 (subst (SkeletonAt (context_skeletons C) y) (ap skeleton yw ∙ q1) (variable_has_skeleton C y Y g))) in
      let es : substitute reduce σ M ≡ eta_long b (variable k) = ap (substitute reduce σ) me ∙ substitute_eta_expand σ b (variable y) (variable k) nil ke in
      let ev : reduce (arrow s1 s2) (lambda N) (app (substitute reduce σ M) (substitute_spine reduce σ S)) ≡ reduce s2 (rename (at_variable k) N) (substitute_spine reduce σ S) = reduction_beta s1 s2 N (substitute reduce σ M) (substitute_spine reduce σ S) ∙ ap (λ X. reduce s2 (substitute reduce (single s1 X) N) (substitute_spine reduce σ S)) es ∙ ap (λ X. reduce s2 X (substitute_spine reduce σ S)) (argument_back Δ V s1 s2 b k N n sy (subst (SameForm b) q1 f)) in
      let n' : TermSkeleton (constant_skeletons Σ) Δ (rename (at_variable k) N) s2 = renaming_keeps_skeletons (constant_skeletons Σ) (s1 ∷ Δ) Δ (at_variable k) N s2 (into k s1 sy) n in
      uses_unren (under V) V (at_variable k) N (back k) (uses_back B V C Δ σ (with_seen o seen) S (instantiate_type A1 M A2) Z s2 (rename (at_variable k) N) c (instance_is_type Σ ok C A1 M A2 c t1 t2 m) w kb s (both_r (is_bound B seen M o) (pattern_arguments B (with_seen o seen) S) e) (skeleton_substituted reduce (single (skeleton A1) M) A2 ∙ q2) n' (subst (Uses V) ev u))
    where
      into : (k : ℕ) (s1 : Skeleton) → SkeletonAt Δ k s1 → (i : ℕ) (t : Skeleton) → SkeletonAt (s1 ∷ Δ) i t → SkeletonAt Δ (at_variable k i) t
      into k s1 g zero t e = subst (SkeletonAt Δ k) e g
      into k s1 g (suc i) t e = e

      back : (k i : ℕ) → V (at_variable k i) ≡ true → under V i ≡ true
      back k zero e = refl
      back k (suc i) e = e

  number_equal : (i j : ℕ) → same_number i j ≡ true → i ≡ j
  number_equal zero zero e = refl
  number_equal zero (suc j) e = absurd cc
  number_equal (suc i) zero e = absurd cc
  number_equal (suc i) (suc j) e = ap suc (number_equal i j e)

  plug_put : (V : ℕ → Bool) (x : Image) (a : Skeleton) (N : Term) (S : Spine) → x ≡ put a N → Uses V (apply_image reduce x S) → Uses V (reduce a N S)
  plug_put V x a N S e u = subst (λ y. Uses V (apply_image reduce y S)) e u

  plug_keep : (V : ℕ → Bool) (x : Image) (k : ℕ) (S : Spine) → x ≡ keep k → Uses V (apply_image reduce x S) → UsesSpine V S
  plug_keep V x k S e u = (subst (λ y. Uses V (apply_image reduce y S)) e u).1

  pub kept_hide : (F : ℕ → Bool) (σ : ℕ → Image) → KeepsVariables F σ → KeepsVariables (hide F) (lift σ)
  kept_hide F σ h zero e = absurd cc
  kept_hide F σ h (suc i) e = let (j, q) = h i e in (suc j, ap (rename_image suc) q)

  mutual
    -- The lemma
    pub strict_value : (B F V : ℕ → Bool) (C : List LfType) (Δ : List Skeleton) (σ : ℕ → Image) (x : ℕ) (a : Skeleton) (N : Term) (M : Term) (P : LfType) → IsContext Σ C → IsType Σ C P → SubstitutionBySkeletons (constant_skeletons Σ) (context_skeletons C) Δ σ → KeepsVariables B σ → KeepsVariables F σ → σ x ≡ put a N → TermSkeleton (constant_skeletons Σ) Δ N a → SkeletonAt (context_skeletons C) x a → HasType Σ C M P → strict B F x M ≡ true → Uses V (substitute reduce σ M) → Uses V N
    strict_value B F V C Δ σ x a N (lambda M) (pi A1 P) c (t1, t2) w kb kf q n g m e u = uses_unren V (under V) suc N (λ i r. r) (strict_value (under B) (hide F) (under V) (A1 ∷ C) (skeleton A1 ∷ Δ) (lift σ) (suc x) a (rename suc N) M P (c, t1) t2 (lift_by_skeletons (constant_skeletons Σ) (skeleton A1) (context_skeletons C) Δ σ w) (kept_lift B σ kb) (kept_hide F σ kf) (ap (rename_image suc) q) (renaming_keeps_skeletons (constant_skeletons Σ) Δ (skeleton A1 ∷ Δ) suc N a (λ i t h. h) n) g m e u)
    strict_value B F V C Δ σ x a N (lambda M) (atom d T) c t w kb kf q n g m e u = absurd m
    strict_value B F V C Δ σ x a N (root h S) (pi A1 P) c t w kb kf q n g m e u = absurd m
    strict_value B F V C Δ σ x a N (root (constant d) S) (atom b T) c t w kb kf q n g (A, k, s) e u = strict_value_spine B F V C Δ σ x a N S A (atom b T) c (constant_type Σ ok C d A k) w kb kf q n g s e u
    strict_value B F V C Δ σ x a N (root (metavariable d) S) (atom b T) c t w kb kf q n g (A, k, s) e u = absurd k
    strict_value B F V C Δ σ x a N (root (variable j) S) (atom b T) c t w kb kf q n g (A, k, s) e u = by (either_cases (both (same_number j x) (pattern_arguments B [] S)) (both (either (B j) (F j)) (strict_spine B F x S)) e) (λ r us. strict_value_spine B F V C Δ σ x a N S A (atom b T) c (declared_is_type Σ ok C j A c k) w kb kf q n g s r us)
      where
        one : (Γ : List Skeleton) (i : ℕ) (s t : Skeleton) → SkeletonAt Γ i s → SkeletonAt Γ i t → s ≡ t
        one [] i s t g h = absurd g
        one (r ∷ Γ) zero s t g h = sym g ∙ h
        one (r ∷ Γ) (suc i) s t g h = one Γ i s t g h

        kept_at : (B j ≡ true) ⊎ (F j ≡ true) → (i : ℕ) × (σ j ≡ keep i)
        kept_at (inl r) = kb j r
        kept_at (inr r) = kf j r

        by : (both (same_number j x) (pattern_arguments B [] S) ≡ true) ⊎ (both (either (B j) (F j)) (strict_spine B F x S) ≡ true) → (strict_spine B F x S ≡ true → UsesSpine V (substitute_spine reduce σ S) → Uses V N) → Uses V N
        by (inl r) f =
            let jx : j ≡ x = number_equal j x (both_l (same_number j x) (pattern_arguments B [] S) r) in
            uses_back B V C Δ σ [] S A (atom b T) a N c (declared_is_type Σ ok C j A c k) w kb s (both_r (same_number j x) (pattern_arguments B [] S) r) (one (context_skeletons C) x (skeleton A) a (subst (λ i. SkeletonAt (context_skeletons C) i (skeleton A)) jx (variable_has_skeleton C j A k)) g) n (plug_put V (σ j) a N (substitute_spine reduce σ S) (ap σ jx ∙ q) u)
        by (inr r) f =
            let (i, ke) = kept_at (either_cases (B j) (F j) (both_l (either (B j) (F j)) (strict_spine B F x S) r)) in
            f (both_r (either (B j) (F j)) (strict_spine B F x S) r) (plug_keep V (σ j) i (substitute_spine reduce σ S) ke u)

    pub strict_value_spine : (B F V : ℕ → Bool) (C : List LfType) (Δ : List Skeleton) (σ : ℕ → Image) (x : ℕ) (a : Skeleton) (N : Term) (S : Spine) (A Z : LfType) → IsContext Σ C → IsType Σ C A → SubstitutionBySkeletons (constant_skeletons Σ) (context_skeletons C) Δ σ → KeepsVariables B σ → KeepsVariables F σ → σ x ≡ put a N → TermSkeleton (constant_skeletons Σ) Δ N a → SkeletonAt (context_skeletons C) x a → SpineType Σ C S A Z → strict_spine B F x S ≡ true → UsesSpine V (substitute_spine reduce σ S) → Uses V N
    strict_value_spine B F V C Δ σ x a N nil A Z c t w kb kf q n g s e u = absurd cc
    strict_value_spine B F V C Δ σ x a N (app M S) (atom b T) Z c t w kb kf q n g s e u = absurd s
    strict_value_spine B F V C Δ σ x a N (app M S) (pi A1 A2) Z c (t1, t2) w kb kf q n g (m, s) e (u1, u2) = by (either_cases (strict B F x M) (strict_spine B F x S) e) (λ r. strict_value B F V C Δ σ x a N M A1 c t1 w kb kf q n g m r u1) (λ r. strict_value_spine B F V C Δ σ x a N S (instantiate_type A1 M A2) Z c (instance_is_type Σ ok C A1 M A2 c t1 t2 m) w kb kf q n g s r u2)
      where
        by : (strict B F x M ≡ true) ⊎ (strict_spine B F x S ≡ true) → (strict B F x M ≡ true → Uses V N) → (strict_spine B F x S ≡ true → Uses V N) → Uses V N
        by (inl r) f h = f r
        by (inr r) f h = h r
