-- The type of a variable with a strict occurrence mentions only what stands where it occurs.
use Rattle.lf_checks.specs.Strict.{head_variable, is_bound, pattern_arguments, with_seen, eta_at, strict, strict_spine}
use Rattle.lf_checks.specs.Tests.{both, either, is_in}
use Rattle.std.proofs.Common.{◌≡◌, ℕ, zero, suc, List, [], ◌∷◌, refl, sym, ap, ◌∙◌, subst, inl, inr}
use Rattle.std.specs.Prelude.{Bool, true, false, Option, Some, None, ◌⊎◌, not}
use Rattle.lf.specs.Syntax.{constant, variable, metavariable, Term, Spine, lambda, root, nil, app, LfType, pi, atom, Skeleton, skeleton, rename_type, weaken}
use Rattle.lf.specs.Substitution.{single}
use Rattle.lf.specs.SkeletonTyping.{SkeletonAt}
use Rattle.lf.specs.Typing.{Signature, TypeAt, instantiate_type, HasType, SpineType, IsType, IsContext, IsSignature}
use Rattle.lf.specs.Variables.{under, Uses, UsesSpine, UsesType, same_number, hide, at_variable}
use Rattle.lf.specs.Eta.{eta_long}
use Rattle.lf.specs.Skeletons.{context_skeletons}
use Rattle.lf.proofs.ToSkeletons.{variable_has_skeleton, type_by_skeletons}
use Rattle.lf.proofs.Weakening.{declared_is_type}
use Rattle.lf.proofs.Substitution.{instance_is_type, constant_type}
use Rattle.lf.proofs.Uses.{uses_type_renamed}
use Rattle.lf.proofs.Eta.{EtaLike, Fits}
use Rattle.lf.proofs.EtaTypes.{SameForm, eta_form, eta_spine, eta_at_type, eta_type}
use Rattle.lf.proofs.Decidability.{variable_type_unique}
use Rattle.lf_checks.proofs.EtaTest.{is_eta, both_l, both_r}
use Rattle.lf.proofs.Kept.{uses_unren_type, typed_uses_type, instance_uses}

pub either_cases : (a b : Bool) → either a b ≡ true → (a ≡ true) ⊎ (b ≡ true)
either_cases true b e = inl refl
either_cases false b e = inr e

number_equal : (i j : ℕ) → same_number i j ≡ true → i ≡ j
number_equal zero zero e = refl
number_equal zero (suc j) e = absurd cc
number_equal (suc i) zero e = absurd cc
number_equal (suc i) (suc j) e = ap suc (number_equal i j e)

-- bound variables and entries have types that use V
abbrev pub BoundOk : (ℕ → Bool) → (ℕ → Bool) → (ℕ → Bool) → List LfType → Type 0
BoundOk B F V C = (j : ℕ) (A : LfType) → TypeAt C j A → either (B j) (F j) ≡ true → UsesType V A

pub bound_push : (B F V : ℕ → Bool) (C : List LfType) (X : LfType) → UsesType V X → BoundOk B F V C → BoundOk (under B) (hide F) (under V) (X ∷ C)
bound_push B F V C X x h zero A e u = subst (UsesType (under V)) (sym e) (uses_type_renamed V (under V) suc X (λ i e. e) x)
bound_push B F V C X x h (suc j) A (D, g, e) u = subst (UsesType (under V)) (sym e) (uses_type_renamed V (under V) suc D (λ i e. e) (h j D g u))

module _ (Σ : Signature) (ok : IsSignature Σ) where
  -- an argument that is a bound variable
  pub bound_argument : (B : ℕ → Bool) (seen : List ℕ) (M : Term) (o : Option ℕ) → is_bound B seen M o ≡ true → (y : ℕ) × (a : Skeleton) × (B y ≡ true) × (M ≡ eta_long a (variable y))
  bound_argument B seen M None e = absurd cc
  bound_argument B seen M (Some y) e =
      let (a, q) = is_eta y M (both_l (eta_at zero y M) (both (B y) (not (is_in y seen))) e) in
      (y, a, both_l (B y) (not (is_in y seen)) (both_r (eta_at zero y M) (both (B y) (not (is_in y seen))) e), q)

  -- the instance at an eta-long variable is a renaming
  instance_eta : (C : List LfType) (y : ℕ) (a : Skeleton) (A1 A2 : LfType) → IsType Σ (A1 ∷ C) A2 → TypeAt C y A1 → SameForm a (skeleton A1) → instantiate_type A1 (eta_long a (variable y)) A2 ≡ rename_type (at_variable y) A2
  instance_eta C y a A1 A2 t g f = eta_type Σ ok (skeleton A1 ∷ context_skeletons C) (context_skeletons C) (single (skeleton A1) (eta_long a (variable y))) (at_variable y) A2 like fit rename (type_by_skeletons Σ (A1 ∷ C) A2 t)
    where
      like : EtaLike (λ c. Unit {0}) (single (skeleton A1) (eta_long a (variable y))) (at_variable y)
      like zero = (tt, eta_form a (skeleton A1) (variable y) nil f)
      like (suc i) = refl

      fit : Fits (skeleton A1 ∷ context_skeletons C) (single (skeleton A1) (eta_long a (variable y)))
      fit zero t e = e
      fit (suc i) t e = tt

      rename : (i : ℕ) (t : Skeleton) → SkeletonAt (skeleton A1 ∷ context_skeletons C) i t → SkeletonAt (context_skeletons C) (at_variable y i) t
      rename zero t e = subst (SkeletonAt (context_skeletons C) y) e (variable_has_skeleton C y A1 g)
      rename (suc i) t e = e

  pattern_type : (B F V : ℕ → Bool) (C : List LfType) (seen : List ℕ) (S : Spine) (A Z : LfType) → IsContext Σ C → IsType Σ C A → BoundOk B F V C → UsesType V Z → SpineType Σ C S A Z → pattern_arguments B seen S ≡ true → UsesType V A
  pattern_type B F V C seen nil A Z c t h z s e = subst (UsesType V) (sym s) z
  pattern_type B F V C seen (app M S) (atom a T) Z c t h z s e = absurd s
  pattern_type B F V C seen (app M S) (pi A1 A2) Z c (t1, t2) h z (m, s) e =
      let o : Option ℕ = head_variable zero M in
      let (y, a, b, q) = bound_argument B seen M o (both_l (is_bound B seen M o) (pattern_arguments B (with_seen o seen) S) e) in
      let m' : HasType Σ C (eta_long a (variable y)) A1 = subst (λ N. HasType Σ C N A1) q m in
      let (Y, g) = eta_at_type Σ ok a C y nil A1 m' in
      let (f, w) = eta_spine Σ ok a C y nil Y A1 c g t1 m' in
      let u1 : UsesType V A1 = subst (UsesType V) w (h y Y g (ap (λ x. either x (F y)) b)) in
      let r : UsesType V (instantiate_type A1 M A2) = pattern_type B F V C (with_seen o seen) S (instantiate_type A1 M A2) Z c (instance_is_type Σ ok C A1 M A2 c t1 t2 m) h z s (both_r (is_bound B seen M o) (pattern_arguments B (with_seen o seen) S) e) in
      let r' : UsesType V (rename_type (at_variable y) A2) = subst (UsesType V) (ap (λ N. instantiate_type A1 N A2) q ∙ instance_eta C y a A1 A2 t2 (subst (TypeAt C y) w g) f) r in
      (u1, uses_unren_type (under V) V (at_variable y) A2 (back V y) r')
    where
      back : (V : ℕ → Bool) (y i : ℕ) → V (at_variable y i) ≡ true → under V i ≡ true
      back V y zero e = refl
      back V y (suc i) e = e

  mutual
    -- The lemma
    pub strict_occurrence_type : (B F V : ℕ → Bool) (C : List LfType) (x : ℕ) (X : LfType) (M : Term) (P : LfType) → IsContext Σ C → IsType Σ C P → BoundOk B F V C → UsesType V P → Uses V M → HasType Σ C M P → TypeAt C x X → strict B F x M ≡ true → UsesType V X
    strict_occurrence_type B F V C x X (lambda M) (pi A1 P) c (t1, t2) h (p1, p2) u m g e = uses_unren_type V (under V) suc X (λ i e. e) (strict_occurrence_type (under B) (hide F) (under V) (A1 ∷ C) (suc x) (weaken X) M P (c, t1) t2 (bound_push B F V C A1 p1 h) p2 u m (X, g, refl) e)
    strict_occurrence_type B F V C x X (lambda M) (atom a T) c t h p u m g e = absurd m
    strict_occurrence_type B F V C x X (root k S) (pi A1 P) c t h p u m g e = absurd m
    strict_occurrence_type B F V C x X (root (constant d) S) (atom a T) c t h p u (A, k, s) g e = strict_spine_type B F V C x X S A (atom a T) c (constant_type Σ ok C d A k) h (typed_uses_type Σ [] V A (λ i Y w. absurd w) (ok.types_ok d A k)) u s g e
    strict_occurrence_type B F V C x X (root (metavariable d) S) (atom a T) c t h p u (A, k, s) g e = absurd k
    strict_occurrence_type B F V C x X (root (variable j) S) (atom a T) c t h p u (A, k, s) g e = by (either_cases (both (same_number j x) (pattern_arguments B [] S)) (both (either (B j) (F j)) (strict_spine B F x S)) e) (λ r q. strict_spine_type B F V C x X S A (atom a T) c (declared_is_type Σ ok C j A c k) h r u.1 s g q)
      where
        by : (both (same_number j x) (pattern_arguments B [] S) ≡ true) ⊎ (both (either (B j) (F j)) (strict_spine B F x S) ≡ true) → (UsesType V A → strict_spine B F x S ≡ true → UsesType V X) → UsesType V X
        by (inl q) f =
            let w : j ≡ x = number_equal j x (both_l (same_number j x) (pattern_arguments B [] S) q) in
            subst (UsesType V) (variable_type_unique C x A X (subst (λ i. TypeAt C i A) w k) g) (pattern_type B F V C [] S A (atom a T) c (declared_is_type Σ ok C j A c k) h p s (both_r (same_number j x) (pattern_arguments B [] S) q))
        by (inr q) f = f (h j A k (both_l (either (B j) (F j)) (strict_spine B F x S) q)) (both_r (either (B j) (F j)) (strict_spine B F x S) q)

    pub strict_spine_type : (B F V : ℕ → Bool) (C : List LfType) (x : ℕ) (X : LfType) (S : Spine) (A Z : LfType) → IsContext Σ C → IsType Σ C A → BoundOk B F V C → UsesType V A → UsesSpine V S → SpineType Σ C S A Z → TypeAt C x X → strict_spine B F x S ≡ true → UsesType V X
    strict_spine_type B F V C x X nil A Z c t h p u s g e = absurd cc
    strict_spine_type B F V C x X (app M S) (atom a T) Z c t h p u s g e = absurd s
    strict_spine_type B F V C x X (app M S) (pi A1 A2) Z c (t1, t2) h (p1, p2) u (m, s) g e = by (either_cases (strict B F x M) (strict_spine B F x S) e) (λ q. strict_occurrence_type B F V C x X M A1 c t1 h p1 u.0 m g q) (λ q. strict_spine_type B F V C x X S (instantiate_type A1 M A2) Z c (instance_is_type Σ ok C A1 M A2 c t1 t2 m) h (instance_uses V A1 M A2 u.0 p2) u.1 s g q)
      where
        by : (strict B F x M ≡ true) ⊎ (strict_spine B F x S ≡ true) → (strict B F x M ≡ true → UsesType V X) → (strict_spine B F x S ≡ true → UsesType V X) → UsesType V X
        by (inl q) f k = f q
        by (inr q) f k = k q
