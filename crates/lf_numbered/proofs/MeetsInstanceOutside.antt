-- What stands outside a clause beside the values of its own variables; and given terms and tuples with other constants.
use Rattle.std.proofs.Common.{◌≡◌, ℕ, zero, suc, ◌+◌, ◌<◌, ◌⊎◌, List, [], ◌∷◌, ◌++◌, length, inl, inr, refl, sym, ap, ◌∙◌, subst}
use Rattle.std.specs.Prelude.{Bool, true, false, Option, Some, None}
use Rattle.lf.specs.Syntax.{Term, Spine, nil, app, LfType, pi, atom, Kind, Skeleton, rename_type}
use Rattle.lf.specs.Substitution.{Image, keep, put, rename_image, substitute, substitute_image, substitute_type, reduce}
use Rattle.lf.specs.AtOnce.{shift_by}
use Rattle.lf.specs.Typing.{Signature, TypeAt, ImageHasType, IsTypedSubstitution, IsType, IsContext, IsSignature}
use Rattle.lf.specs.Variables.{target_arguments, onto, Values, UsesType}
use Rattle.lf.proofs.Agreement.{uses_type_within}
use Rattle.lf.proofs.Closed.{agree_type}
use Rattle.lf.proofs.Growth.{growth_keeps_types}
use Rattle.lf.proofs.Partial.{uses_type_all}
use Rattle.lf.proofs.Renaming.{rename_substituted, reduction_is_natural}
use Rattle.lf.proofs.TypeLaws.{substitute_renamed_type}
use Rattle.lf.proofs.Uses.{uses_type_renamed}
use Rattle.lf.proofs.Weakening.{declared_is_type}
use Rattle.lf_checks.specs.Marks.{SamePlaces}
use Rattle.lf_checks.specs.Tests.{either}
use Rattle.lf_checks.proofs.StrictTypes.{either_cases}
use Rattle.lf_cases.specs.Missing.{put_in}
use Rattle.lf_cases.specs.Pattern.{given_at}
use Rattle.lf_coverage.specs.Heads.{HaveSkeletons}
use Rattle.lf_coverage.proofs.Choices.{either_first, either_second}
use Rattle.lf_coverage.proofs.Meeting.{which_type}
use Rattle.lf_coverage.proofs.Parts.{some_same}
use Rattle.lf_numbered.specs.NumberedInstance.{move, move_all, move_spine, move_type}

-- what stands outside a context's own variables
abbrev pub past : List LfType → ℕ → Bool
past [] i = true
past (A ∷ L) zero = false
past (A ∷ L) (suc i) = past L i

past_near : (L : List LfType) (i : ℕ) (A : LfType) → TypeAt L i A → past L i ≡ true → ⊥
past_near [] i A g e = g
past_near (B ∷ L) zero A g e = cc
past_near (B ∷ L) (suc i) A (D, g, q) e = past_near L i D g e

pub past_far : (L : List LfType) (k : ℕ) → past L (k + length L) ≡ true
past_far [] k = refl
past_far (A ∷ L) k = ap (past (A ∷ L)) (next k (length L)) ∙ past_far L k
  where
    next : (k n : ℕ) → k + suc n ≡ suc (k + n)
    next k n = omega Rattle.std.proofs.Common.arith

-- what is outside beside what has a value
module _ (Σ Σm : Signature) (ok : IsSignature Σ) (more : (c : ℕ) (A : LfType) → Σ.types c ≡ Some A → Σm.types c ≡ Some A) (more_kinds : (a : ℕ) (K : Kind) → Σ.kinds a ≡ Some K → Σm.kinds a ≡ Some K) (okm : IsSignature Σm) (outer L Y : List LfType) (co : IsContext Σ outer) (ω τ : ℕ → Image) (tω : IsTypedSubstitution Σm outer Y ω) (far : (k : ℕ) (A : LfType) → TypeAt outer k A → τ (k + length L) ≡ ω k) (used : ℕ → Bool) (v : Values Σm used (onto L outer) Y τ) where
  pub with_outer : Values Σm (λ i. either (used i) (past L i)) (onto L outer) Y τ
  with_outer = record { typed = λ i A g u. typed i A g (either_cases (used i) (past L i) u); closed = λ i A g u. closed i A g (either_cases (used i) (past L i) u) }
    where
      typed : (i : ℕ) (A : LfType) → TypeAt (onto L outer) i A → (used i ≡ true) ⊎ (past L i ≡ true) → ImageHasType Σm Y (τ i) (substitute_type reduce τ A)
      typed i A g (inl u) = v.typed i A g u
      typed i A g (inr u) = by (which_type L outer i A g)
        where
          by : TypeAt L i A ⊎ ((k : ℕ) × (B : LfType) × TypeAt outer k B × (i ≡ k + length L) × (A ≡ rename_type (shift_by (length L)) B)) → ImageHasType Σm Y (τ i) (substitute_type reduce τ A)
          by (inl near) = absurd (past_near L i A near u)
          by (inr (k, B, h, q, r)) =
              let tB : IsType Σm outer B = growth_keeps_types Σ Σm more more_kinds outer B (declared_is_type Σ ok outer k B co h) in
              let same : substitute_type reduce τ A ≡ substitute_type reduce ω B = ap (substitute_type reduce τ) r ∙ substitute_renamed_type reduce τ (shift_by (length L)) B ∙ agree_type Σm reduce outer (λ j. τ (j + length L)) ω B far tB in
              subst (λ x. ImageHasType Σm Y x (substitute_type reduce τ A)) (sym (ap τ q ∙ far k B h)) (subst (ImageHasType Σm Y (ω k)) (sym same) (tω k B h))

      closed : (i : ℕ) (A : LfType) → TypeAt (onto L outer) i A → (used i ≡ true) ⊎ (past L i ≡ true) → UsesType (λ j. either (used j) (past L j)) A
      closed i A g (inl u) = uses_type_within used (λ j. either (used j) (past L j)) A (λ j e. either_first (used j) (past L j) e) (v.closed i A g u)
      closed i A g (inr u) = by (which_type L outer i A g)
        where
          by : TypeAt L i A ⊎ ((k : ℕ) × (B : LfType) × TypeAt outer k B × (i ≡ k + length L) × (A ≡ rename_type (shift_by (length L)) B)) → UsesType (λ j. either (used j) (past L j)) A
          by (inl near) = absurd (past_near L i A near u)
          by (inr (k, B, h, q, r)) = subst (UsesType (λ j. either (used j) (past L j))) (sym r) (uses_type_renamed (λ j. true) (λ j. either (used j) (past L j)) (shift_by (length L)) B (λ j e. either_second (used (j + length L)) (past L (j + length L)) (past_far L j)) (uses_type_all (λ j. true) B (λ j. refl)))

-- images that move
pub image_put : (ρ : ℕ → ℕ) (σ : ℕ → Image) (x : Image) → rename_image ρ (substitute_image σ x) ≡ substitute_image (λ i. rename_image ρ (σ i)) x
image_put ρ σ (keep i) = refl
image_put ρ σ (put a N) = ap (put a) (rename_substituted reduce reduction_is_natural ρ σ N)

-- what is given, moved
pub given_onward : (γ : ℕ → ℕ) (σ : ℕ → Image) (Ms : List (Option Term)) (i : ℕ) (M : Term) → given_at Ms i ≡ Some M → given_at (put_in σ (move_all γ Ms)) i ≡ Some (substitute reduce σ (move γ M))
given_onward γ σ [] i M e = absurd cc
given_onward γ σ (Some N ∷ Ms) zero M e = ap (λ P. Some (substitute reduce σ (move γ P))) (some_same e)
given_onward γ σ (None ∷ Ms) zero M e = absurd cc
given_onward γ σ (Some N ∷ Ms) (suc i) M e = given_onward γ σ Ms i M e
given_onward γ σ (None ∷ Ms) (suc i) M e = given_onward γ σ Ms i M e

pub given_typed : (κ : Rattle.lf.specs.SkeletonTyping.HeadSkeletons) (Γ : List Skeleton) (Ms : List (Option Term)) (i : ℕ) (M : Term) → HaveSkeletons κ Γ Ms → given_at Ms i ≡ Some M → (a : Skeleton) × Rattle.lf.specs.SkeletonTyping.TermSkeleton κ Γ M a
given_typed κ Γ [] i M h e = absurd cc
given_typed κ Γ (Some N ∷ Ms) zero M (x, h) e = subst (λ P. (a : Skeleton) × Rattle.lf.specs.SkeletonTyping.TermSkeleton κ Γ P a) (some_same e) x
given_typed κ Γ (None ∷ Ms) zero M h e = absurd cc
given_typed κ Γ (Some N ∷ Ms) (suc i) M (x, h) e = given_typed κ Γ Ms i M h e
given_typed κ Γ (None ∷ Ms) (suc i) M h e = given_typed κ Γ Ms i M h e

-- tuples with other constants
pub arguments_of : (γ : ℕ → ℕ) (A : LfType) → move_spine γ (target_arguments A) ≡ target_arguments (move_type γ A)
arguments_of γ (pi A B) = arguments_of γ B
arguments_of γ (atom a S) = refl

pub places_turned : (γ : ℕ → ℕ) (b : List Bool) (T : Spine) → SamePlaces b T T → SamePlaces b (move_spine γ T) (move_spine γ T)
places_turned γ [] nil s = tt
places_turned γ [] (app N T) s = s
places_turned γ (x ∷ b) nil s = s
places_turned γ (true ∷ b) (app N T) (e, s) = (refl, places_turned γ b T s)
places_turned γ (false ∷ b) (app N T) s = places_turned γ b T s
