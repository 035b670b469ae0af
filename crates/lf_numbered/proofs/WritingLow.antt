-- Arguments that use only local variables of lower families, by the skeletons of the head and of the local context alone.
use Rattle.std.proofs.Common.{◌≡◌, ℕ, zero, suc, List, [], ◌∷◌, ◌+◌, length, inl, inr, refl, sym, ap, ap₂, ◌∙◌, subst, arith}
use Rattle.std.specs.Prelude.{Bool, true, ◌<◌, ◌⊎◌}
use Rattle.lf.specs.Syntax.{Spine, nil, app, LfType, pi, atom, Skeleton, base, arrow, skeleton}
use Rattle.lf.specs.Substitution.{Image, keep, put, rename_image, single, substitute_spine, reduce}
use Rattle.lf.specs.AtOnce.{shift_by}
use Rattle.lf.specs.Skeletons.{context_skeletons}
use Rattle.lf.specs.Typing.{instantiate_type}
use Rattle.lf.specs.Variables.{target, binders, Uses, FamiliesIn, ImageUses, everything}
use Rattle.lf.specs.Worlds.{lift_over}
use Rattle.lf.proofs.Agreement.{uses_within}
use Rattle.lf.proofs.Kept.{substitute_uses_type}
use Rattle.lf.proofs.Partial.{uses_all}
use Rattle.lf.proofs.TypeLaws.{skeleton_substituted}
use Rattle.lf.proofs.Uses.{uses_renamed}
use Rattle.lf_checks.specs.Marks.{output_places}
use Rattle.lf_cases.specs.Raised.{LowPlaces, low}
use Rattle.lf_cases.specs.Reached.{arguments_count}
use Rattle.lf_cases.proofs.OutputItems.{lift_over_far}
use Rattle.lf_coverage.specs.Heads.{ArgumentsAreBelow}
use Rattle.lf_coverage.proofs.Forms.{lift_over_near}
use Rattle.lf_coverage.proofs.HeadItems.{type_kind, outputs, kind_substituted, count_substituted}
use Rattle.lf_coverage.proofs.Parts.{first_same, second_same, no_arrow, suc_same}
use Rattle.lf_coverage.proofs.NearOrFar.{near_or_far}
use Rattle.lf_coverage.proofs.PatternDistinct.{length_context as skeletons_length}

-- the family of a skeleton's target
abbrev pub skeleton_target : Skeleton → ℕ
skeleton_target (base a) = a
skeleton_target (arrow a b) = skeleton_target b

pub target_is : (A : LfType) → target A ≡ skeleton_target (skeleton A)
target_is (pi A B) = target_is B
target_is (atom a S) = refl

pub base_same : {a b : ℕ} → base a ≡ base b → a ≡ b
base_same e = cc

-- what families are in a type depends on its skeleton
pub families_same : (S : ℕ → Bool) (A B : LfType) → skeleton A ≡ skeleton B → FamiliesIn S A → FamiliesIn S B
families_same S (pi A B) (pi C D) e (a, b) = (families_same S A C (first_same e) a, families_same S B D (second_same e) b)
families_same S (pi A B) (atom c T) e h = absurd (no_arrow e)
families_same S (atom a T) (pi C D) e h = absurd (no_arrow (sym e))
families_same S (atom a T) (atom c U) e h = subst (λ d. S d ≡ true) (base_same e) h

pub below_same : (below : ℕ → ℕ → Bool) (A B : LfType) → skeleton A ≡ skeleton B → ArgumentsAreBelow below A → ArgumentsAreBelow below B
below_same below (pi A B) (pi C D) e (a, b) = (subst (λ t. FamiliesIn (below t) C) (target_is A ∙ ap skeleton_target (first_same e) ∙ sym (target_is C)) (families_same (below (target A)) A C (first_same e) a), below_same below B D (second_same e) b)
below_same below (pi A B) (atom c T) e h = absurd (no_arrow e)
below_same below (atom a T) (pi C D) e h = absurd (no_arrow (sym e))
below_same below (atom a T) (atom c U) e h = tt

-- so are the local context's skeletons
pub locals_same : (A B : LfType) (G H : List LfType) → skeleton A ≡ skeleton B → context_skeletons G ≡ context_skeletons H → context_skeletons (binders G A) ≡ context_skeletons (binders H B)
locals_same (pi A B) (pi C D) G H e g = locals_same B D (A ∷ G) (C ∷ H) (second_same e) (ap₂ (λ a Γ. a ∷ Γ) (first_same e) g)
locals_same (pi A B) (atom c T) G H e g = absurd (no_arrow e)
locals_same (atom a T) (pi C D) G H e g = absurd (no_arrow (sym e))
locals_same (atom a T) (atom c U) G H e g = g

-- the local variables whose families are in T, and all outside, by skeletons
abbrev pub low_by : (ℕ → Bool) → List Skeleton → ℕ → Bool
low_by T [] i = true
low_by T (a ∷ Γ) zero = T (skeleton_target a)
low_by T (a ∷ Γ) (suc i) = low_by T Γ i

low_is : (T : ℕ → Bool) (D : List LfType) (i : ℕ) → low T D i ≡ low_by T (context_skeletons D) i
low_is T [] i = refl
low_is T (A ∷ D) zero = ap T (target_is A)
low_is T (A ∷ D) (suc i) = low_is T D i

pub low_far : (T : ℕ → Bool) (Γ : List Skeleton) (i : ℕ) → low_by T Γ (i + length Γ) ≡ true
low_far T [] i = refl
low_far T (a ∷ Γ) i = ap (low_by T (a ∷ Γ)) (next i (length Γ)) ∙ low_far T Γ i
  where
    next : (i n : ℕ) → i + suc n ≡ suc (i + n)
    next i n = omega arith

-- each argument of a head of this skeleton uses only such variables of lower families
abbrev pub LowBy : (ℕ → ℕ → Bool) → List Skeleton → Skeleton → Spine → Type 0
LowBy below Γ t nil = Unit {0}
LowBy below Γ (base c) (app M S) = Unit {0}
LowBy below Γ (arrow a b) (app M S) = Uses (low_by (below (skeleton_target a)) Γ) M × LowBy below Γ b S

pub low_places_by : (below : ℕ → ℕ → Bool) (D : List LfType) (n : ℕ) (A : LfType) (S : Spine) → arguments_count A ≡ n → LowPlaces below D (output_places (outputs n)) S (type_kind A) → LowBy below (context_skeletons D) (skeleton A) S
low_places_by below D n A nil e h = tt
low_places_by below D n (atom a T) (app M S) e h = tt
low_places_by below D zero (pi A B) (app M S) e h = absurd (no e)
  where
    no : suc (arguments_count B) ≡ zero → ⊥
    no q = omega (arith, q)
low_places_by below D (suc n) (pi A B) (app M S) e (u, h) = (uses_within (low (below (target A)) D) (low_by (below (skeleton_target (skeleton A))) (context_skeletons D)) M (λ i v. sym (low_is (below (skeleton_target (skeleton A))) D i) ∙ ap (λ t. low (below t) D i) (sym (target_is A)) ∙ v) u, subst (λ t. LowBy below (context_skeletons D) t S) (skeleton_substituted reduce (single (skeleton A) M) B) (low_places_by below D n (instantiate_type A M B) S (count_substituted (single (skeleton A) M) B ∙ suc_same e) (subst (LowPlaces below D (output_places (outputs n)) S) (sym (kind_substituted (single (skeleton A) M) B)) h)))

pub places_of_low : (below : ℕ → ℕ → Bool) (D : List LfType) (n : ℕ) (A : LfType) (S : Spine) → arguments_count A ≡ n → LowBy below (context_skeletons D) (skeleton A) S → LowPlaces below D (output_places (outputs n)) S (type_kind A)
places_of_low below D zero A S e h = tt
places_of_low below D (suc n) A nil e h = tt
places_of_low below D (suc n) (atom a T) (app M S) e h = tt
places_of_low below D (suc n) (pi A B) (app M S) e (u, h) = (uses_within (low_by (below (skeleton_target (skeleton A))) (context_skeletons D)) (low (below (target A)) D) M (λ i v. ap (λ t. low (below t) D i) (target_is A) ∙ low_is (below (skeleton_target (skeleton A))) D i ∙ v) u, subst (LowPlaces below D (output_places (outputs n)) S) (kind_substituted (single (skeleton A) M) B) (places_of_low below D n (instantiate_type A M B) S (count_substituted (single (skeleton A) M) B ∙ suc_same e) (subst (λ t. LowBy below (context_skeletons D) t S) (sym (skeleton_substituted reduce (single (skeleton A) M) B)) h)))

-- values under the local context keep it
uses_far : (V : ℕ → Bool) (n : ℕ) (x : Image) → ((i : ℕ) → V (i + n) ≡ true) → ImageUses V (rename_image (shift_by n) x)
uses_far V n (keep j) h = h j
uses_far V n (put a N) h = uses_renamed everything V (shift_by n) N (λ i u. h i) (uses_all everything N (λ i. refl))

pub low_put : (below : ℕ → ℕ → Bool) (D : List LfType) (ρ : ℕ → Image) (t : Skeleton) (S : Spine) → LowBy below (context_skeletons D) t S → LowBy below (context_skeletons D) t (substitute_spine reduce (lift_over D ρ) S)
low_put below D ρ t nil h = tt
low_put below D ρ (base c) (app M S) h = tt
low_put below D ρ (arrow a b) (app M S) (u, h) = ((substitute_uses_type (low_by (below (skeleton_target a)) (context_skeletons D)) (low_by (below (skeleton_target a)) (context_skeletons D)) (lift_over D ρ) (atom 0 (app M nil)) stays (u, tt)).0, low_put below D ρ b S h)
  where
    stays : (i : ℕ) → low_by (below (skeleton_target a)) (context_skeletons D) i ≡ true → ImageUses (low_by (below (skeleton_target a)) (context_skeletons D)) (lift_over D ρ i)
    stays i v = by (near_or_far (length D) i)
      where
        by : (i < length D) ⊎ ((j : ℕ) × (i ≡ j + length D)) → ImageUses (low_by (below (skeleton_target a)) (context_skeletons D)) (lift_over D ρ i)
        by (inl l) = subst (ImageUses (low_by (below (skeleton_target a)) (context_skeletons D))) (sym (lift_over_near D ρ i l)) v
        by (inr (j, e)) = subst (ImageUses (low_by (below (skeleton_target a)) (context_skeletons D))) (sym (ap (lift_over D ρ) e ∙ lift_over_far D ρ j)) (uses_far (low_by (below (skeleton_target a)) (context_skeletons D)) (length D) (ρ j) (λ k. ap (λ n. low_by (below (skeleton_target a)) (context_skeletons D) (k + n)) (sym (skeletons_length D)) ∙ low_far (below (skeleton_target a)) (context_skeletons D) k))
