-- What is answered to an offer of a list, and the offer of a listed case.
use Rattle.std.proofs.Common.{◌⊎◌, List, ◌∷◌, Option, Some, None, inl, inr, refl, sym, subst}
use Rattle.lf.specs.Subordination.{Member}
use Rattle.lf_coverage.specs.Listed.{Listed, no_offer, with_case, without_case}

pub answer_of : {Head Found : Type 0} {Answer : Head → Option Found → Type 0} {hs : List Head} {Cs : List Found} → Listed Answer hs Cs → (h : Head) → Member h hs → ((D : Found) × Member D Cs × Answer h (Some D)) ⊎ Answer h None
answer_of no_offer h m = absurd m
answer_of {Answer = Answer} (with_case {h = k} {D = D} a l) h (inl e) = inl (D, inl refl, subst (λ j. Answer j (Some D)) (sym e) a)
answer_of {Answer = Answer} (without_case {h = k} a l) h (inl e) = inr (subst (λ j. Answer j None) (sym e) a)
answer_of {Found = Found} {Answer = Answer} (with_case {D = D} {Cs = Ds} a l) h (inr m) = by (answer_of l h m)
  where
    by : ((E : Found) × Member E Ds × Answer h (Some E)) ⊎ Answer h None → ((E : Found) × Member E (D ∷ Ds) × Answer h (Some E)) ⊎ Answer h None
    by (inl (E, m, a)) = inl (E, inr m, a)
    by (inr a) = inr a
answer_of (without_case a l) h (inr m) = answer_of l h m

pub offer_of_case : {Head Found : Type 0} {Answer : Head → Option Found → Type 0} {hs : List Head} {Cs : List Found} → Listed Answer hs Cs → (D : Found) → Member D Cs → (h : Head) × Member h hs × Answer h (Some D)
offer_of_case no_offer D m = absurd m
offer_of_case {Answer = Answer} (with_case {h = h} a l) D (inl e) = (h, inl refl, subst (λ E. Answer h (Some E)) (sym e) a)
offer_of_case (with_case a l) D (inr m) = let (h, k, b) = offer_of_case l D m in (h, inr k, b)
offer_of_case (without_case a l) D m = let (h, k, b) = offer_of_case l D m in (h, inr k, b)

-- other answers to the same offers
pub listed_by : {Head Found : Type 0} {A B : Head → Option Found → Type 0} {hs : List Head} {Cs : List Found} → ((h : Head) (found : Option Found) → Member h hs → A h found → B h found) → Listed A hs Cs → Listed B hs Cs
listed_by f no_offer = no_offer
listed_by f (with_case {h = h} {D = D} a l) = with_case (f h (Some D) (inl refl) a) (listed_by (λ k z m. f k z (inr m)) l)
listed_by f (without_case {h = h} a l) = without_case (f h None (inl refl) a) (listed_by (λ k z m. f k z (inr m)) l)
