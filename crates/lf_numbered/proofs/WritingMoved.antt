-- Ground values and instances of a case over a signature, with other constants in another, where the case's own constants stay: so into an extension that
-- leaves room, and back.
use Rattle.std.proofs.Common.{◌≡◌, ℕ, zero, suc, List, [], ◌∷◌, ◌+◌, length, Option, Some, None, inl, inr, refl, sym, ap, ◌∙◌, subst, arith}
use Rattle.std.specs.Prelude.{Bool, ◌⊎◌}
use Rattle.lf.specs.Syntax.{Spine, LfType, Kind, skeleton}
use Rattle.lf.specs.Substitution.{Image, keep, put, substitute_spine, substitute_type, reduce}
use Rattle.lf.specs.AtOnce.{in_front}
use Rattle.lf.specs.Typing.{Signature, ImageHasType, HasType, IsContext}
use Rattle.lf.specs.Subordination.{Block}
use Rattle.lf.specs.Worlds.{World}
use Rattle.lf_cases.specs.Case.{as_term, behind_entries}
use Rattle.lf_cases.specs.Cover.{InstanceIn}
use Rattle.lf_coverage.proofs.Parts.{none_some}
use Rattle.lf_numbered.specs.EntryConstants.{EntryConstant, entry_constant, entry_type, with_entries}
use Rattle.lf_numbered.specs.NumberedCase.{some_spine, AreSomeTerms, AreTypedBlockVariables, AreGroundValues, AreInstances}
use Rattle.lf_numbered.specs.NumberedInstance.{block_at, move, move_spine, move_type, move_types}
use Rattle.lf_numbered.specs.OwnTerms.{BlockVariable}
use Rattle.lf_numbered.specs.Reading.{read_spine, read_type, read_entry, variable_past, entry_reading}
use Rattle.lf_numbered.specs.WritingRoom.{move_kind, move_image}
use Rattle.lf_numbered.proofs.EntrySignature.{else_cases}
use Rattle.lf_numbered.proofs.EntryValues.{read_some, some_equal}
use Rattle.lf_numbered.proofs.Reading.{IsOld, type_only, typed_only, read_image}
use Rattle.lf_numbered.proofs.WritingGap.{some_moved, behind_moved}
use Rattle.lf_numbered.proofs.WritingMove.{move_type_substituted, move_spine_substituted, moved_typed, same_moved, same_type_moved}
use mathlib.Core.Path.{fun_ext}

-- entries are read as variables, which don't move
pub reading_moved : (γ : ℕ → ℕ) (first : ℕ) (Bs : List Block) (θ : ℕ → ℕ → Image) (m c : ℕ) → entry_reading first Bs (λ k i. move_image γ (θ k i)) m c ≡ entry_reading first Bs θ m c
reading_moved γ first Bs θ m c = by (entry_constant zero first Bs c)
  where
    past : (y : Image) → variable_past m (move_image γ y) ≡ variable_past m y
    past (keep v) = refl
    past (put a N) = refl

    by : (y : Option EntryConstant) → read_entry (λ k i. move_image γ (θ k i)) m y ≡ read_entry θ m y
    by None = refl
    by (Some e) = ap (λ v. Some (length e.block.some, v)) (past (θ e.number e.place))

pub readings_moved : (γ : ℕ → ℕ) (first : ℕ) (Bs : List Block) (θ : ℕ → ℕ → Image) → entry_reading first Bs (λ k i. move_image γ (θ k i)) ≡ entry_reading first Bs θ
readings_moved γ first Bs θ = fun_ext (λ m. fun_ext (λ c. reading_moved γ first Bs θ m c))

-- a constant of the case that is read as itself is one of the signature
pub read_stays : (Σ : Signature) (first : ℕ) (Bs : List Block) (θ : ℕ → ℕ → Image) (γ : ℕ → ℕ) → ((c : ℕ) → IsOld Σ c → γ c ≡ c) → (m c : ℕ) → IsOld (with_entries Σ first Bs) c → entry_reading first Bs θ m c ≡ None → γ c ≡ c
read_stays Σ first Bs θ γ old m c (A, e) q = by (else_cases (Σ.types c) (entry_type (entry_constant zero first Bs c)) A e)
  where
    none : (y : Option EntryConstant) → read_entry θ m y ≡ None → entry_type y ≡ Some A → ⊥
    none None r s = none_some s
    none (Some z) r s = none_some (sym r)

    by : (Σ.types c ≡ Some A) ⊎ (entry_type (entry_constant zero first Bs c) ≡ Some A) → γ c ≡ c
    by (inl o) = old c (A, o)
    by (inr o) = absurd (none (entry_constant zero first Bs c) q o)

module _ (γ : ℕ → ℕ) (Σ Σ' : Signature) (types : (c : ℕ) (A : LfType) → Σ.types c ≡ Some A → Σ'.types (γ c) ≡ Some (move_type γ A)) (kinds : (a : ℕ) (K : Kind) → Σ.kinds a ≡ Some K → Σ'.kinds a ≡ Some (move_kind γ K)) (Σ₁ : Signature) (f : ℕ → ℕ → Option (ℕ × ℕ)) (stays : (m c : ℕ) → IsOld Σ₁ c → f m c ≡ None → γ c ≡ c) where
  abbrev turned : (ℕ → Image) → ℕ → Image
  turned φ i = move_image γ (φ i)

  pub values_moved : (G H : List LfType) → H ≡ move_types γ G → (X : List LfType) → IsContext Σ₁ X → (τ : ℕ → Image) → AreGroundValues Σ G f X τ → AreGroundValues Σ' H f X (λ i. move_image γ (τ i))
  values_moved G H h [] c τ e = ap turned e
  values_moved G H h (A ∷ X) (c, a) τ (N, υ, v, m, e) = (move γ N, turned υ, values_moved G H h X c υ v, subst (λ D. HasType Σ' D (move γ N) (substitute_type reduce (turned υ) (read_type (f (length X)) A))) (sym h) (subst (HasType Σ' (move_types γ G) (move γ N)) same (moved_typed γ Σ Σ' types kinds G N (substitute_type reduce υ (read_type (f (length X)) A)) m)), ap turned e ∙ fun_ext front)
    where
      same : move_type γ (substitute_type reduce υ (read_type (f (length X)) A)) ≡ substitute_type reduce (turned υ) (read_type (f (length X)) A)
      same = move_type_substituted γ υ (read_type (f (length X)) A) ∙ ap (substitute_type reduce (turned υ)) (same_type_moved γ (IsOld Σ₁) (f (length X)) A (stays (length X)) (type_only Σ₁ X A a))

      front : (i : ℕ) → turned (in_front (put (skeleton A) N) υ) i ≡ in_front (put (skeleton A) (move γ N)) (turned υ) i
      front zero = refl
      front (suc i) = refl

  module _ (X : List LfType) where
    abbrev g : ℕ → Option (ℕ × ℕ)
    g = f (length X)

    terms_same : (b : BlockVariable) → AreSomeTerms Σ₁ X b.block.some b.terms → move_spine γ (read_spine g b.terms) ≡ read_spine g b.terms
    terms_same b (υ, ut, ue) =
        ap (λ V. move_spine γ (read_spine g V)) ue
        ∙ ap (move_spine γ) (read_some g b.block.some υ)
        ∙ some_moved γ b.block.some (λ i. read_image g (υ i))
        ∙ some_equal b.block.some (turned (λ i. read_image g (υ i))) (λ i. read_image g (υ i)) (λ i A h. ap (as_term (skeleton A)) (at (υ i) (substitute_type reduce υ A) (ut i A h)))
        ∙ sym (read_some g b.block.some υ)
        ∙ sym (ap (read_spine g) ue)
      where
        at : (y : Image) (Z : LfType) → ImageHasType Σ₁ X y Z → move_image γ (read_image g y) ≡ read_image g y
        at (keep j) Z h = refl
        at (put a N) Z (e, m) = ap (put a) (same_moved γ (IsOld Σ₁) g N (stays (length X)) (typed_only Σ₁ X N Z m))

    pub instances_moved : {W : List Block} {S : ℕ → Bool} {G H : List LfType} (w : World Σ W S G) (v : World Σ' W S H) (o : ℕ → Option Spine) (θ : ℕ → ℕ → Image) (τ : ℕ → Image) (k : ℕ) (bs : List BlockVariable) → ((j : ℕ) (b : BlockVariable) → block_at bs j ≡ Some b → InstanceIn w b.block (θ (k + j)) → InstanceIn v b.block (λ i. move_image γ (θ (k + j) i))) → AreTypedBlockVariables Σ₁ W X o bs → AreInstances w (f (length X)) τ θ k bs → AreInstances v (f (length X)) (λ i. move_image γ (τ i)) (λ m i. move_image γ (θ m i)) k bs
    instances_moved w v o θ τ k [] h t i = tt
    instances_moved w v o θ τ k (b ∷ bs) h (m, t, p, ts) (i, e, is) = (
      subst (λ j. InstanceIn v b.block (turned (θ j))) (none k) (h zero b refl (subst (λ j. InstanceIn w b.block (θ j)) (sym (none k)) i)),
      ap (some_spine b.block.some) (fun_ext (behind_moved γ b.block.entries (θ k))) ∙ sym (some_moved γ b.block.some (behind_entries b.block.entries (θ k))) ∙ ap (move_spine γ) e ∙ move_spine_substituted γ τ (read_spine g b.terms) ∙ ap (substitute_spine reduce (turned τ)) (terms_same b t),
      instances_moved w v o θ τ (suc k) bs (λ j c q u. subst (λ l. InstanceIn v c.block (turned (θ l))) (next k j) (h (suc j) c q (subst (λ l. InstanceIn w c.block (θ l)) (sym (next k j)) u))) ts is,
    )
      where
        none : (k : ℕ) → k + 0 ≡ k
        none k = omega arith

        next : (k j : ℕ) → k + suc j ≡ suc k + j
        next k j = omega arith
