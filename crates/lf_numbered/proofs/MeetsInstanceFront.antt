-- Block variables with one more at their end, the number of this one in an instance, and typed values in front of others.
use Rattle.std.proofs.Common.{◌≡◌, ℕ, zero, suc, ◌<◌, List, [], ◌∷◌, refl, sym, ap, ◌∙◌, subst, arith}
use Rattle.std.specs.Prelude.{cond, Option, Some}
use Rattle.lf.specs.Syntax.{Term, Spine, LfType, skeleton, weaken}
use Rattle.lf.specs.Substitution.{Image, put, substitute_type, reduce}
use Rattle.lf.specs.AtOnce.{in_front}
use Rattle.lf.specs.Typing.{Signature, TypeAt, ImageHasType, HasType, IsTypedSubstitution, IsContext, IsSignature}
use Rattle.lf.specs.Variables.{onto, same_number}
use Rattle.lf.proofs.Checker.{number_itself}
use Rattle.lf.proofs.Closed.{agree_type}
use Rattle.lf.proofs.TypeLaws.{skeleton_renamed, substitute_renamed_type}
use Rattle.lf_coverage.proofs.Meeting.{joined, joined_near}
use Rattle.lf_numbered.specs.EntryConstants.{entry_images}
use Rattle.lf_numbered.specs.NumberedInstance.{AreTypedValues, move_type}
use Rattle.lf_numbered.specs.OwnTerms.{ImageOnOwnTerms, OnOwnTerms}
use Rattle.lf_numbered.proofs.EntrySignature.{not_same}
use Rattle.lf_numbered.proofs.Reading.{IsOld}
use Rattle.lf_numbered.proofs.WritingGap.{same_old}
use mathlib.Core.Path.{fun_ext}

-- Values in front of typed values, for variables whose types have constants of the signature alone
module _ (Σ Σm : Signature) (ok : IsSignature Σ) (more : (c : ℕ) (A : LfType) → Σ.types c ≡ Some A → Σm.types c ≡ Some A) (kinds : Σm.kinds ≡ Σ.kinds) (Y : List LfType) (o : ℕ → Option Spine) (γ : ℕ → ℕ) (old : (c : ℕ) → IsOld Σ c → γ c ≡ c) (X : List LfType) (σ : ℕ → Image) (v : AreTypedValues Σm Y o γ X σ) where
  pub front_values : (O : List LfType) → IsContext Σ O → (η : ℕ → Image) → IsTypedSubstitution Σm O Y η → ((i : ℕ) (A : LfType) → TypeAt O i A → (N : Term) × (η i ≡ put (skeleton A) N) × OnOwnTerms o N) → AreTypedValues Σm Y o γ (onto O X) (joined O η σ)
  front_values [] c η t p = v
  front_values (A ∷ O) (c, a) η t p =
      let (N, e, w) = p zero (weaken A) refl in
      let η' : ℕ → Image = λ i. η (suc i) in
      let τ : ℕ → Image = joined O η' σ in
      let put_here : η zero ≡ put (skeleton A) N = e ∙ ap (λ s. put s N) (skeleton_renamed suc A) in
      let here : ImageHasType Σm Y (put (skeleton A) N) (substitute_type reduce η' A) = subst (λ x. ImageHasType Σm Y x (substitute_type reduce η' A)) put_here (subst (ImageHasType Σm Y (η zero)) (substitute_renamed_type reduce η suc A) (t zero (weaken A) refl)) in
      let same : substitute_type reduce η' A ≡ substitute_type reduce τ (move_type γ A) = sym (agree_type Σ reduce O τ η' A (λ i B g. joined_near O η' σ i B g) a) ∙ ap (substitute_type reduce τ) (sym (same_old Σ γ O A old a)) in (
        N,
        τ,
        front_values O c η' (λ i B g. subst (ImageHasType Σm Y (η (suc i))) (substitute_renamed_type reduce η suc B) (t (suc i) (weaken B) (B, g, refl))) (λ i B g. let (P, q, r) = p (suc i) (weaken B) (B, g, refl) in (P, q ∙ ap (λ s. put s P) (skeleton_renamed suc B), r)),
        subst (HasType Σm Y N) same here.1,
        w,
        fun_ext (front N put_here),
      )
    where
      front : (N : Term) → η zero ≡ put (skeleton A) N → (i : ℕ) → joined (A ∷ O) η σ i ≡ in_front (put (skeleton A) N) (joined O (λ j. η (suc j)) σ) i
      front N e zero = e
      front N e (suc i) = refl

-- what stands behind entries
pub behind_entries_typed : (Σ : Signature) (n : ℕ) (U : Spine) (υ : ℕ → Image) (O Y es : List LfType) → IsTypedSubstitution Σ (onto es O) Y (entry_images n U es υ) → IsTypedSubstitution Σ O Y υ
behind_entries_typed Σ n U υ O Y [] t = t
behind_entries_typed Σ n U υ O Y (E ∷ es) t = behind_entries_typed Σ n U υ O Y es (λ i A g. subst (ImageHasType Σ Y (entry_images n U es υ i)) (substitute_renamed_type reduce (entry_images n U (E ∷ es) υ) suc A) (t (suc i) (weaken A) (A, g, refl)))

pub behind_entries_own : (o : ℕ → Option Spine) (n : ℕ) (U : Spine) (υ : ℕ → Image) (es : List LfType) → ((i : ℕ) → ImageOnOwnTerms o (entry_images n U es υ i)) → (i : ℕ) → ImageOnOwnTerms o (υ i)
behind_entries_own o n U υ [] h i = h i
behind_entries_own o n U υ (E ∷ es) h i = behind_entries_own o n U υ es (λ j. h (suc j)) i

-- The new block variable's number is that of the instance's.
abbrev pub with_number : ℕ → ℕ → (ℕ → ℕ) → ℕ → ℕ
with_number n j ν k = cond (same_number k n) j (ν k)

pub number_new : (n j : ℕ) (ν : ℕ → ℕ) → with_number n j ν n ≡ j
number_new n j ν = ap (λ b. cond b j (ν n)) (number_itself n)

pub number_other : (n j : ℕ) (ν : ℕ → ℕ) (k : ℕ) → k < n → with_number n j ν k ≡ ν k
number_other n j ν k l = ap (λ b. cond b j (ν k)) (not_same k n (apart k n l))
  where
    apart : (k n : ℕ) → k < n → k ≡ n → ⊥
    apart k n l e = omega (arith, l, e)
