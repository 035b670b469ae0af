-- What `instance_of` answers by number where a case and a pattern have what it needs: nothing is asked but what unification answers at the places of the
-- pattern beside the case.
use Rattle.std.specs.Prelude.{◌≡◌, ℕ, List, Bool, Some}
use Rattle.lf.specs.Syntax.{Kind}
use Rattle.lf.specs.Substitution.{Image}
use Rattle.lf.specs.Typing.{Signature}
use Rattle.lf.specs.Variables.{nothing}
use Rattle.lf.specs.Subordination.{Block, Member, AreTypedBlocks}
use Rattle.lf.specs.Extension.{Extends}
use Rattle.lf_unification.specs.Solving.{IsWellFormed}
use Rattle.lf_cases.specs.Missing.{blocks_with}
use Rattle.lf_cases.specs.Pattern.{AreHeadsOf, Pattern}
use Rattle.lf_coverage.specs.Calls.{Matched}
use Rattle.lf_numbered.specs.MeetsAnswers.{ArePlacesAnswered, ArePlacesRefuted, FitsPattern, IsMetByNumber, IsPlace, entries_at}
use Rattle.lf_numbered.specs.NumberedBesideGiven.{IsTypedBesideByNumber}
use Rattle.lf_numbered.specs.NumberedCalls.{NumberedCoverNeeds, NumberedMatchedIs, NumberedMatchedNeeds}
use Rattle.lf_numbered.specs.NumberedCallsMeeting.{IsApartByNumber}
use Rattle.lf_numbered.specs.NumberedCallsReached.{ReachedByNumber}
use Rattle.lf_numbered.specs.NumberedCallsStores.{MeetsByNumber, meet_store_by_number}
use Rattle.lf_numbered.specs.NumberedCase.{NumberedCase}

-- The blocks of W are typed, and so is that of each pattern of the list that is an entry's, whatever worlds this comes from. So is that of u : cp x x.
abbrev pub HaveTypedBlocks : Signature → List Block → List Pattern → Type 0
HaveTypedBlocks Σ W ps = (p : Pattern) → Member p ps → AreTypedBlocks Σ (blocks_with p.origin W)

-- So it is with the heads of the clauses of a family; and with a pattern beside which a case is typed, as a subgoal is beside the goal of its outputs.
abbrev pub ClauseHeadsHaveTypedBlocks : Type 0
ClauseHeadsHaveTypedBlocks = (Σ : Signature) (W : List Block) → AreTypedBlocks Σ W → (a : ℕ) (ps : List Pattern) → AreHeadsOf Σ W a ps → HaveTypedBlocks Σ W ps

abbrev pub BesideHasTypedBlock : Type 0
BesideHasTypedBlock = (Σ : Signature) (W : List Block) → AreTypedBlocks Σ W → (first : ℕ) (C : NumberedCase) (p : Pattern) → IsTypedBesideByNumber Σ first W C p → AreTypedBlocks Σ (blocks_with p.origin W)

-- So it is too where a case and a pattern have what `instance_of` needs, whatever worlds the pattern comes from.
abbrev pub NeededBlocksAreTyped : Type 0
NeededBlocksAreTyped = (Σ : Signature) (first : ℕ) (W : List Block) (C : NumberedCase) (p : Pattern) → NumberedMatchedNeeds Σ first W C p → AreTypedBlocks Σ (blocks_with p.origin W)

-- Where a case and a pattern have what `instance_of` needs they fit each other, over the worlds with the pattern's own block.
abbrev pub NeededFits : Type 0
NeededFits = (Σ : Signature) (first : ℕ) (W : List Block) (C : NumberedCase) (p : Pattern) → NumberedMatchedNeeds Σ first W C p → (K : Kind) → Σ.kinds C.family ≡ Some K → FitsPattern Σ (blocks_with p.origin W) C p K

-- And the store at each place is one that is handed to unification, over the signature with entries and over each that extends it.
abbrev pub NeededPlacesAreReady : Type 0
NeededPlacesAreReady = (Σ : Signature) (first : ℕ) (W : List Block) (C : NumberedCase) (p : Pattern) → NumberedMatchedNeeds Σ first W C p → (K : Kind) → Σ.kinds C.family ≡ Some K → (π : ℕ → ℕ) (J : NumberedCase) (φ : ℕ → Image) → IsPlace first C p π J φ → (Σe : Signature) → Extends nothing (entries_at Σ first J) Σe → IsWellFormed Σe (meet_store_by_number π J p φ K)

-- So where steps refute the store at each place that is to be looked at, the case and the pattern are apart: they share no typed instance, and in no context a
-- tuple. So cp b.x c.x is apart from cp-app.
abbrev pub RefutedByNumberIsApart : Type 0
RefutedByNumberIsApart = (Σ : Signature) (first : ℕ) (W : List Block) (C : NumberedCase) (p : Pattern) → NumberedMatchedNeeds Σ first W C p → (K : Kind) → Σ.kinds C.family ≡ Some K → ArePlacesRefuted Σ first C p K → IsApartByNumber Σ first W C p

-- Where unification answers otherwise at a place, the pattern meets the case. So u : cp x x meets cp b.x c.x where b and c are one.
abbrev pub NeededMetIsMeeting : Type 0
NeededMetIsMeeting = (Σ : Signature) (first : ℕ) (W : List Block) (C : NumberedCase) (p : Pattern) → NumberedMatchedNeeds Σ first W C p → (K : Kind) → Σ.kinds C.family ≡ Some K → IsMetByNumber Σ first C p K → MeetsByNumber Σ first W C p

-- So where unification answers at each place that is to be looked at, one of the four answers is so: that the case is an instance, that they are apart, that
-- there are candidates, or that it is stuck.
abbrev pub NeededIsAnswered : Type 0
NeededIsAnswered = (Σ : Signature) (first : ℕ) (W : List Block) (C : NumberedCase) (p : Pattern) → NumberedMatchedNeeds Σ first W C p → (K : Kind) → Σ.kinds C.family ≡ Some K → ArePlacesAnswered Σ first C p K → (m : Matched) × NumberedMatchedIs Σ first W C p m

-- And so it is with each case that the strategy reaches from a goal, and each pattern of the list.
abbrev pub ReachedIsAnswered : Type 0
ReachedIsAnswered = (Σ : Signature) (first : ℕ) (W : List Block) (below : ℕ → ℕ → Bool) (ps : List Pattern) (goal : NumberedCase) → NumberedCoverNeeds Σ first W below ps goal → (D : NumberedCase) → ReachedByNumber Σ first W below ps goal D → (p : Pattern) → Member p ps → (K : Kind) → Σ.kinds D.family ≡ Some K → ArePlacesAnswered Σ first D p K → (m : Matched) × NumberedMatchedIs Σ first W D p m
