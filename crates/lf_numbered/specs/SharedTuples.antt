-- What a case by number and a pattern share is no mere form: each ground instance of it is a tuple that the case holds
-- and the pattern has. So where the instance has a ground one they aren't apart, and a case that the strategy can't
-- split has tuples of the goal that the pattern has.
use Rattle.std.specs.Prelude.{◌≡◌, ℕ, List, Bool}
use Rattle.lf.specs.Syntax.{Spine, LfType}
use Rattle.lf.specs.Substitution.{Image}
use Rattle.lf.specs.Typing.{Signature}
use Rattle.lf.specs.Subordination.{Block, AreTypedBlocks, Member}
use Rattle.lf.specs.Worlds.{World}
use Rattle.lf.specs.Extension.{Extends}
use Rattle.lf_cases.specs.Case.{covered_places}
use Rattle.lf_cases.specs.Pattern.{Known, Pattern}
use Rattle.lf_numbered.specs.EntryPatternsRuns.{HoldsByNumber, ZerothIs}
use Rattle.lf_numbered.specs.MeetsTuple.{SharesTuple}
use Rattle.lf_numbered.specs.NumberedArguments.{HasNumberedArguments}
use Rattle.lf_numbered.specs.NumberedCalls.{NumberedCoverIs, NumberedCoverNeeds, NumberedMatchedNeeds, one_unsplit}
use Rattle.lf_numbered.specs.NumberedCallsMeeting.{HasTuple, IsApartByNumber, IsKnownFor, SharesInstance}
use Rattle.lf_numbered.specs.NumberedCase.{NumberedCase, IsNumberedInstance}
use Rattle.lf_numbered.specs.SharedInstances.{HoldsAsInstance}

-- Each tuple that a shared instance holds, the case holds and the pattern has, where F is known of the block variable
-- of number 0 of the case too, and σ gives the given terms. So cp b.x c.x holds x, x, and u : cp x x has it, since cp
-- b.x b.x does so in {x:exp} {u:cp x x}.
abbrev pub SharedInstanceHasTuple : Type 0
SharedInstanceHasTuple = (Σ : Signature) (first : ℕ) (W : List Block) (C : NumberedCase) (p : Pattern) → NumberedMatchedNeeds Σ first W C p → (s : SharesInstance Σ first W C p) → (V : List Block) → AreTypedBlocks Σ V → (S : ℕ → Bool) (Σ' : Signature) → Extends S Σ Σ' → (G : List LfType) (w : World Σ' V S G) (F : Known) (σ : ℕ → Image) (T : Spine) (h : HoldsByNumber w first s.common F σ T) → ZerothIs C (λ k. h.instances (s.numbers k)) F → (b : HoldsAsInstance w first s.common h.instances h.values C s.numbers s.values) × (k : HoldsByNumber w first C F σ T) × (k.instances ≡ (λ j. h.instances (s.numbers j))) × (k.values ≡ b.values) × HasTuple w p (covered_places C.arguments) F C.given σ T

-- A tuple of a context that the case holds and the pattern has there. So x, x of {x:exp} {u:cp x x} is one of cp b.x
-- c.x and u : cp x x; cp b.x c.x and cp-app have none.
pub record SharesTupleIn {Σ : Signature} {W : List Block} {S : ℕ → Bool} {G : List LfType} (w : World Σ W S G) (first : ℕ) (C : NumberedCase) (p : Pattern) : Type 0 where
  pub known : Known
  pub values : ℕ → Image
  pub tuple : Spine
  pub holds : HoldsByNumber w first C known values tuple
  pub is_known : IsKnownFor p.origin p.at_first C holds.instances known
  pub has : HasTuple w p (covered_places C.arguments) known C.given values tuple

-- So each ground instance of what they share gives such a tuple, with its arguments.
abbrev pub MetHasTuple : Type 0
MetHasTuple = (Σ : Signature) (first : ℕ) (W : List Block) (C : NumberedCase) (p : Pattern) → NumberedMatchedNeeds Σ first W C p → (s : SharesInstance Σ first W C p) → (V : List Block) → AreTypedBlocks Σ V → (S : ℕ → Bool) (Σ' : Signature) → Extends S Σ Σ' → (G : List LfType) (w : World Σ' V S G) (θ : ℕ → ℕ → Image) (ρ : ℕ → Image) → IsNumberedInstance w first s.common θ ρ → (t : SharesTupleIn w first C p) × HasNumberedArguments first s.common θ ρ t.tuple

-- So they share a tuple, in this context: cp b.x c.x and u : cp x x share x, x.
abbrev pub MetSharesTuple : Type 0
MetSharesTuple = (Σ : Signature) (first : ℕ) (W : List Block) (C : NumberedCase) (p : Pattern) → NumberedMatchedNeeds Σ first W C p → (s : SharesInstance Σ first W C p) → (V : List Block) → AreTypedBlocks Σ V → (S : ℕ → Bool) (Σ' : Signature) → Extends S Σ Σ' → (G : List LfType) (w : World Σ' V S G) (θ : ℕ → ℕ → Image) (ρ : ℕ → Image) → IsNumberedInstance w first s.common θ ρ → SharesTuple Σ first C p

-- Where they share a tuple they aren't apart, by the clause `no_tuple`: so cp b.x c.x isn't apart from u : cp x x.
abbrev pub SharedTupleIsNotApart : Type 0
SharedTupleIsNotApart = (Σ : Signature) (first : ℕ) (W : List Block) (C : NumberedCase) (p : Pattern) → SharesTuple Σ first C p → IsApartByNumber Σ first W C p → ⊥

-- Where the strategy can't split a case that it reaches from a goal, and the case shares an instance with a pattern of
-- the list that has a ground one, in a context of whatever worlds, the tuple of this is one that the goal holds and
-- the pattern has. Whether the pattern covers it isn't said: of k X and {F:nat -> nat} k (F z) it doesn't.
abbrev pub UnsplitIsMet : Type 0
UnsplitIsMet = (Σ : Signature) (first : ℕ) (W : List Block) (below : ℕ → ℕ → Bool) (ps : List Pattern) (goal : NumberedCase) → NumberedCoverNeeds Σ first W below ps goal → (D : NumberedCase) → NumberedCoverIs Σ first W below ps goal (one_unsplit D) → (p : Pattern) → Member p ps → (s : SharesInstance Σ first W D p) → (V : List Block) → AreTypedBlocks Σ V → (S : ℕ → Bool) (Σ' : Signature) → Extends S Σ Σ' → (G : List LfType) (w : World Σ' V S G) (θ : ℕ → ℕ → Image) (ρ : ℕ → Image) → IsNumberedInstance w first s.common θ ρ → (t : SharesTupleIn w first goal p) × HasNumberedArguments first s.common θ ρ t.tuple
