-- The place of an offer in the order is that of no other; so the heads that are listed in order are determined, each
-- with its place.
use Rattle.std.specs.Prelude.{◌≡◌, ◌⊎◌, ℕ, List, ◌∷◌, Bool}
use Rattle.lf.specs.Syntax.{LfType}
use Rattle.lf.specs.Typing.{Signature}
use Rattle.lf.specs.Subordination.{Block}
use Rattle.lf_cases.specs.ClauseOrder.{StandsAt}
use Rattle.lf_numbered.specs.EntryConstants.{IsFreeFrom}
use Rattle.lf_numbered.specs.NumberedCalls.{ListsCases}
use Rattle.lf_numbered.specs.NumberedCallsOrder.{HasNumberedRank}
use Rattle.lf_numbered.specs.NumberedCase.{NumberedCase}
use Rattle.lf_numbered.specs.NumberedSplits.{IsOfferTo, NumberedOffer}

-- Two heads that are offered to one variable and have one place are the same head, on the same terms. So with place 0,
-- 1 there is s alone.
abbrev pub PlaceIsOfOneOffer : Type 0
PlaceIsOfOneOffer = (Σ : Signature) (first : ℕ) → IsFreeFrom Σ first → (W : List Block) (C : NumberedCase) (x : ℕ) (X : LfType) (o q : NumberedOffer) → IsOfferTo Σ first W C x X o → IsOfferTo Σ first W C x X q → (r : List ℕ) → HasNumberedRank first W C o r → HasNumberedRank first W C q r → o ≡ q

-- Two places of one head differ at most in the number of its block, which stands in the worlds at both: in worlds that
-- have {x:exp} {u:p x} twice those of b.x are 1, 0, 0, 0 and 1, 1, 0, 0.
abbrev pub PlacesAreOfOneBlock : Type 0
PlacesAreOfOneBlock = (first : ℕ) (W : List Block) (C : NumberedCase) (o : NumberedOffer) (r s : List ℕ) → HasNumberedRank first W C o r → HasNumberedRank first W C o s → (r ≡ s) ⊎ ((v : ℕ) × (w : ℕ) × (B : Block) × (t : List ℕ) × (r ≡ 1 ∷ v ∷ t) × (s ≡ 1 ∷ w ∷ t) × StandsAt v B W × StandsAt w B W)

-- So a head has one place where each block stands once, as in the worlds of {x:exp} {u:p x}; not where it stands twice.
abbrev pub StandOnce : List Block → Type 0
StandOnce W = (v w : ℕ) (B : Block) → StandsAt v B W → StandsAt w B W → v ≡ w

abbrev pub OfferHasOnePlace : Type 0
OfferHasOnePlace = (first : ℕ) (W : List Block) → StandOnce W → (C : NumberedCase) (o : NumberedOffer) (r s : List ℕ) → HasNumberedRank first W C o r → HasNumberedRank first W C o s → r ≡ s

-- And in whatever worlds the list of heads is the same, and so are their places: a head with two places is listed at
-- each of them.
abbrev pub ListedOffersAreOne : Type 0
ListedOffersAreOne = (Σ : Signature) (first : ℕ) → IsFreeFrom Σ first → (W : List Block) (below : ℕ → ℕ → Bool) (C : NumberedCase) (x : ℕ) (Cs Ds : List NumberedCase) (l : ListsCases Σ first W below C x Cs) (m : ListsCases Σ first W below C x Ds) → (l.unified.offers ≡ m.unified.offers) × (l.ranks ≡ m.ranks)
