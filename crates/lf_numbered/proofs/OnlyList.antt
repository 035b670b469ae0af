-- The cases that a split lists are the only ones: each is the only one of its head, and the heads and their order are
-- determined.
use Rattle.std.proofs.Common.{◌≡◌, ℕ, List, Some, None, inl, inr, refl, sym, ◌∙◌, subst}
use Rattle.std.specs.Prelude.{Bool}
use Rattle.lf.specs.Syntax.{Kind, LfType}
use Rattle.lf.specs.Typing.{Signature, TypeAt, IsSignature}
use Rattle.lf.specs.Variables.{target}
use Rattle.lf.specs.Subordination.{Block, AreTypedBlocks, Member}
use Rattle.lf.proofs.Decidability.{variable_type_unique}
use Rattle.lf_coverage.specs.Listed.{Listed, no_offer, with_case, without_case}
use Rattle.lf_coverage.proofs.Parts.{some_same}
use Rattle.lf_numbered.specs.EntryConstants.{IsFreeFrom}
use Rattle.lf_numbered.specs.NumberedCase.{NumberedCase}
use Rattle.lf_numbered.specs.NumberedSplits.{IsOfferTo, NumberedAnswer, NumberedOffer, NumberedUnifierFinds}
use Rattle.lf_numbered.specs.OnlyCase.{AreSameCase}
use Rattle.lf_numbered.specs.OnlyList.{AreSameCases, SplitCaseIsListed, SplitHasOneList}
use Rattle.lf_numbered.specs.TypedNumbered.{IsTypedNumberedCase}
use Rattle.lf_numbered.proofs.OnlyCase.{found_is_not_refuted, offer_has_one_case}
use Rattle.lf_numbered.proofs.OnlyListed.{listed_offers_are_one}

module _ (Σ : Signature) (ok : IsSignature Σ) (W : List Block) (typed : AreTypedBlocks Σ W) (first : ℕ) (free : IsFreeFrom Σ first) (below : ℕ → ℕ → Bool) (C : NumberedCase) (tc : IsTypedNumberedCase Σ first W C) (x : ℕ) (X : LfType) (at : TypeAt C.variables x X) where
  -- the family has one kind
  one_kind : (o : NumberedOffer) (K L : Kind) → Σ.kinds (target o.type) ≡ Some K → Σ.kinds (target o.type) ≡ Some L → K ≡ L
  one_kind o K L p q = some_same (sym p ∙ q)

  one_of : (o : NumberedOffer) → IsOfferTo Σ first W C x X o → (D E : NumberedCase) → NumberedAnswer Σ first below o (Some D) → NumberedAnswer Σ first below o (Some E) → AreSameCase Σ first D E
  one_of o f D E a b = offer_has_one_case Σ ok W typed first free below C tc x X at o f b.kind b.of_family D E (subst (λ K. NumberedUnifierFinds Σ first below o K (Some D)) (one_kind o a.kind b.kind a.of_family b.of_family) a.finds) b.finds

  not_none : (o : NumberedOffer) → IsOfferTo Σ first W C x X o → (D : NumberedCase) → NumberedAnswer Σ first below o (Some D) → NumberedAnswer Σ first below o None → ⊥
  not_none o f D a b = found_is_not_refuted Σ ok W typed first free below C tc x X at o f b.kind b.of_family D (subst (λ K. NumberedUnifierFinds Σ first below o K (Some D)) (one_kind o a.kind b.kind a.of_family b.of_family) a.finds) b.finds

  same_cases : {os : List NumberedOffer} {Ds Es : List NumberedCase} → ((o : NumberedOffer) → Member o os → IsOfferTo Σ first W C x X o) → Listed (NumberedAnswer Σ first below) os Ds → Listed (NumberedAnswer Σ first below) os Es → AreSameCases Σ first Ds Es
  same_cases f no_offer no_offer = tt
  same_cases f (with_case {h = o} {D = D} a l) (with_case {D = E} b m) = (one_of o (f o (inl refl)) D E a b, same_cases (λ q i. f q (inr i)) l m)
  same_cases f (with_case {h = o} {D = D} a l) (without_case b m) = absurd (not_none o (f o (inl refl)) D a b)
  same_cases f (without_case {h = o} a l) (with_case {D = E} b m) = absurd (not_none o (f o (inl refl)) E b a)
  same_cases f (without_case a l) (without_case b m) = same_cases (λ q i. f q (inr i)) l m

  -- what is found for a listed head
  case_listed : {os : List NumberedOffer} {Ds : List NumberedCase} → Listed (NumberedAnswer Σ first below) os Ds → (o : NumberedOffer) → Member o os → IsOfferTo Σ first W C x X o → (E : NumberedCase) → NumberedAnswer Σ first below o (Some E) → (D : NumberedCase) × Member D Ds × AreSameCase Σ first D E
  case_listed no_offer o m f E b = absurd m
  case_listed (with_case {h = q} {D = D} a l) o (inl e) f E b = (D, inl refl, one_of o f D E (subst (λ p. NumberedAnswer Σ first below p (Some D)) (sym e) a) b)
  case_listed (with_case a l) o (inr m) f E b = let (D, i, h) = case_listed l o m f E b in (D, inr i, h)
  case_listed (without_case {h = q} a l) o (inl e) f E b = absurd (not_none o f E b (subst (λ p. NumberedAnswer Σ first below p None) (sym e) a))
  case_listed (without_case a l) o (inr m) f E b = case_listed l o m f E b

pub split_has_one_list : SplitHasOneList
split_has_one_list Σ ok W typed first free below C tc x Ds Es l m = same_cases Σ ok W typed first free below C tc x l.unified.type l.unified.at l.unified.each l.unified.listed (subst (λ os. Listed (NumberedAnswer Σ first below) os Es) (sym (listed_offers_are_one Σ first free W below C x Ds Es l m).0) m.unified.listed)

pub split_case_is_listed : SplitCaseIsListed
split_case_is_listed Σ ok W typed first free below C tc x Ds l E s =
    let f : IsOfferTo Σ first W C x l.unified.type s.offer = subst (λ X. IsOfferTo Σ first W C x X s.offer) (variable_type_unique C.variables x s.type l.unified.type s.at l.unified.at) s.is_offered in
    case_listed Σ ok W typed first free below C tc x l.unified.type l.unified.at l.unified.listed s.offer (l.unified.every s.offer f) f E (record { kind = s.kind; of_family = s.of_family; finds = s.finds })
