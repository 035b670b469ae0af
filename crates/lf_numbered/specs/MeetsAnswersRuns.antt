-- Where unification answers at each place to be looked at, `instance_of` has an answer of a case by number and a pattern that fit each other. So do a case that
-- comes from a goal of inputs and the head of a clause, and a case that is typed beside a subgoal and this.
use Rattle.std.specs.Prelude.{◌≡◌, ℕ, List, Bool, true, false, Some}
use Rattle.lf.specs.Syntax.{Kind}
use Rattle.lf.specs.Typing.{Signature, IsSignature}
use Rattle.lf.specs.Variables.{target, nothing, everything}
use Rattle.lf.specs.Subordination.{Block, AreTypedBlocks}
use Rattle.lf_checks.specs.Clause.{Clause, IsClause, outside}
use Rattle.lf_checks.specs.Marks.{MentionChosenOnly}
use Rattle.lf_cases.specs.Case.{input_goal}
use Rattle.lf_cases.specs.Pattern.{Pattern, head_pattern, is_given, origin}
use Rattle.lf_coverage.specs.Calls.{Matched}
use Rattle.lf_coverage.specs.Leaf.{IsTypedPattern}
use Rattle.lf_numbered.specs.EntryConstants.{IsFreeFrom}
use Rattle.lf_numbered.specs.EntryPatterns.{IsInstanceOfPattern}
use Rattle.lf_numbered.specs.MeetsAnswers.{ArePlacesAnswered, ArePlacesReady, FitsPattern, IsOfWorlds, IsRefutedByNumber}
use Rattle.lf_numbered.specs.NumberedBesideGiven.{IsTypedBesideByNumber}
use Rattle.lf_numbered.specs.NumberedCalls.{NumberedMatchedIs}
use Rattle.lf_numbered.specs.NumberedCallsMeeting.{IsApartByNumber}
use Rattle.lf_numbered.specs.NumberedCase.{NumberedCase}
use Rattle.lf_numbered.specs.Numbering.{numbered}
use Rattle.lf_numbered.specs.OwnStores.{ComesByNumbers}
use Rattle.lf_numbered.specs.TypedNumbered.{IsTypedNumberedCase}

-- It has one where it is decided whether the case is an instance, and where what is refuted at each place is apart.
abbrev pub EachPlaceIsAnswered : Type 0
EachPlaceIsAnswered = (Σ : Signature) → IsSignature Σ → (W : List Block) → AreTypedBlocks Σ W → (first : ℕ) → IsFreeFrom Σ first → (C : NumberedCase) → IsTypedNumberedCase Σ first W C → (p : Pattern) → IsTypedPattern Σ p → (K : Kind) → FitsPattern Σ W C p K → ArePlacesReady Σ first C p K → Dec (IsInstanceOfPattern Σ first C p) → ArePlacesAnswered Σ first C p K → (IsRefutedByNumber Σ first C p K → IsApartByNumber Σ first W C p) → (m : Matched) × NumberedMatchedIs Σ first W C p m

-- A case that comes from a goal of inputs fits the head of each clause of its family, and one that is typed beside a pattern fits this.
abbrev pub InputRunFits : Type 0
InputRunFits = (Σ : Signature) → IsSignature Σ → (W : List Block) → AreTypedBlocks Σ W → (first : ℕ) → IsFreeFrom Σ first → (below : ℕ → ℕ → Bool) (a : ℕ) (m : List Bool) (K : Kind) → Σ.kinds a ≡ Some K → MentionChosenOnly nothing m K → (C : NumberedCase) → ComesByNumbers Σ W first below (numbered first (input_goal a m K)) C → (c : Clause) (i : IsClause Σ W c) → target c.type ≡ a → FitsPattern Σ W C (head_pattern c (origin i)) K

abbrev pub BesideFits : Type 0
BesideFits = (Σ : Signature) (W : List Block) (first : ℕ) (C : NumberedCase) (p : Pattern) → IsTypedBesideByNumber Σ first W C p → IsOfWorlds p.origin W → ((i : ℕ) → is_given C.given i ≡ true → outside p.clause.type everything i ≡ false) → (K : Kind) → Σ.kinds C.family ≡ Some K → FitsPattern Σ W C p K
