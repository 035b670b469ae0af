-- Each of two cases that are the same but for their variables is an instance of the other, so it holds no more.
use Rattle.std.proofs.Common.{ℕ, zero, List, [], ◌∷◌, Some, None, inl, inr, refl}
use Rattle.std.specs.Prelude.{Bool}
use Rattle.lf.specs.Syntax.{Spine, LfType}
use Rattle.lf.specs.Substitution.{Image}
use Rattle.lf.specs.Typing.{Signature, IsSignature}
use Rattle.lf.specs.Subordination.{Block, AreTypedBlocks, Member}
use Rattle.lf.specs.Worlds.{World}
use Rattle.lf.specs.Extension.{Extends}
use Rattle.lf_cases.specs.Pattern.{Known}
use Rattle.lf_numbered.specs.EntryConstants.{IsFreeFrom}
use Rattle.lf_numbered.specs.EntryPatternsRuns.{HoldsByNumber, HoldsApart, ZerothIs}
use Rattle.lf_numbered.specs.NewInstance.{AreApart}
use Rattle.lf_numbered.specs.NumberedCase.{NumberedCase}
use Rattle.lf_numbered.specs.NumberedInstance.{IsNumberedInstanceOf}
use Rattle.lf_numbered.specs.OnlyList.{AreSameCases}
use Rattle.lf_numbered.specs.SameCaseHolds.{EachHoldsSame, SameCaseHoldsSame, SplitListsHoldSame}
use Rattle.lf_numbered.specs.SharedInstances.{HoldsAsInstance}
use Rattle.lf_numbered.specs.TypedNumbered.{IsTypedNumberedCase}
use Rattle.lf_numbered.proofs.NumberedSplitCases.{split_case_is_typed, unified_case}
use Rattle.lf_numbered.proofs.OnlyList.{split_has_one_list}
use Rattle.lf_numbered.proofs.SharedInstances.{instance_holds_back}

-- What is known of the block variable of number 0 is known of it in a case of which this one is an instance and which
-- is one of it.
zeroth_there : (Σ : Signature) (first : ℕ) (C J : NumberedCase) (σ : ℕ → Image) → IsNumberedInstanceOf Σ first C J (λ k. k) σ → (θ : ℕ → ℕ → Image) (F : Known) → ZerothIs J θ F → ZerothIs C θ F
zeroth_there Σ first C J σ i θ None z = tt
zeroth_there Σ first C J σ i θ (Some (B, φ)) (b, at, q, e) = (_, i.is_instance.blocks zero b at, q, e)

-- Block variables that are apart stay so.
apart_there : (Σ : Signature) (first : ℕ) (J C : NumberedCase) (σ : ℕ → Image) → IsNumberedInstanceOf Σ first J C (λ k. k) σ → (θ : ℕ → ℕ → Image) → AreApart J θ → AreApart C θ
apart_there Σ first J C σ i θ a j k b c p q e s = a j k _ _ (i.is_instance.blocks j b p) (i.is_instance.blocks k c q) e s

module _ (Σ : Signature) (ok : IsSignature Σ) (first : ℕ) (free : IsFreeFrom Σ first) (W X : List Block) (J C : NumberedCase) (tj : IsTypedNumberedCase Σ first W J) (tc : IsTypedNumberedCase Σ first X C) (σ τ : ℕ → Image) (i : IsNumberedInstanceOf Σ first J C (λ k. k) σ) (b : IsNumberedInstanceOf Σ first C J (λ k. k) τ) (V : List Block) (typed : AreTypedBlocks Σ V) (S : ℕ → Bool) (Σ' : Signature) (x : Extends S Σ Σ') (G : List LfType) (w : World Σ' V S G) (F : Known) (ρ : ℕ → Image) (T : Spine) where
  held : HoldsByNumber w first J F ρ T → HoldsByNumber w first C F ρ T
  held h =
      let t : HoldsAsInstance w first J h.instances h.values C (λ k. k) σ = instance_holds_back Σ Σ' ok X W first free C tc J tj.variables (λ k. k) σ i V typed S x G w h.instances h.values h.is_ground in
      record { instances = h.instances; values = t.values; is_ground = t.is_ground; zeroth = zeroth_there Σ first C J τ b h.instances F h.zeroth; given = t.given ρ h.given; has_arguments = t.arguments T h.has_arguments }

  held_apart : HoldsApart w first J F ρ T → HoldsApart w first C F ρ T
  unfolding held
  held_apart h = record { holds = held h.holds; are_apart = apart_there Σ first J C σ i h.holds.instances h.are_apart }

pub same_case_holds_same : SameCaseHoldsSame
same_case_holds_same Σ ok first free W X D E td te s V typed S Σ' x G w F ρ T = (
  (
    held Σ ok first free W X D E td te s.values s.back s.is_instance s.has_instance V typed S Σ' x G w F ρ T,
    held Σ ok first free X W E D te td s.back s.values s.has_instance s.is_instance V typed S Σ' x G w F ρ T,
  ),
  (
    held_apart Σ ok first free W X D E td te s.values s.back s.is_instance s.has_instance V typed S Σ' x G w F ρ T,
    held_apart Σ ok first free X W E D te td s.back s.values s.has_instance s.is_instance V typed S Σ' x G w F ρ T,
  ),
)

each_holds_same : (Σ : Signature) → IsSignature Σ → (W : List Block) (first : ℕ) → IsFreeFrom Σ first → (Ds Es : List NumberedCase) → ((D : NumberedCase) → Member D Ds → IsTypedNumberedCase Σ first W D) → ((E : NumberedCase) → Member E Es → IsTypedNumberedCase Σ first W E) → AreSameCases Σ first Ds Es → EachHoldsSame Σ first Ds Es
each_holds_same Σ ok W first free [] [] td te s = tt
each_holds_same Σ ok W first free [] (E ∷ Es) td te s = s
each_holds_same Σ ok W first free (D ∷ Ds) [] td te s = s
each_holds_same Σ ok W first free (D ∷ Ds) (E ∷ Es) td te (s, r) = (same_case_holds_same Σ ok first free W W D E (td D (inl refl)) (te E (inl refl)) s, each_holds_same Σ ok W first free Ds Es (λ C m. td C (inr m)) (λ C m. te C (inr m)) r)

pub split_lists_hold_same : SplitListsHoldSame
split_lists_hold_same Σ ok W typed first free below C tc x Ds Es l m =
    each_holds_same Σ ok W first free Ds Es
    (λ D k. split_case_is_typed Σ ok W typed first free below C tc x D (unified_case Σ first W below C x Ds l.unified D k))
    (λ E k. split_case_is_typed Σ ok W typed first free below C tc x E (unified_case Σ first W below C x Es m.unified E k))
    (split_has_one_list Σ ok W typed first free below C tc x Ds Es l m)
