-- Along runs by number from a goal of inputs the arguments have the types of their places, as matching of heads asks: what is typed beside the head of a
-- clause, closed over what is outside it, has them.
use Rattle.std.specs.Prelude.{◌≡◌, ℕ, List, [], Bool, Some}
use Rattle.lf.specs.Syntax.{Spine, LfType, Kind}
use Rattle.lf.specs.Typing.{Signature, IsType, IsSignature}
use Rattle.lf.specs.Subordination.{Block, AreTypedBlocks}
use Rattle.lf.specs.Variables.{target, nothing}
use Rattle.lf_checks.specs.Clause.{Clause, IsClause, constant_clause}
use Rattle.lf_checks.specs.Marks.{MentionChosenOnly, TypedPlaces}
use Rattle.lf_cases.specs.Case.{covered_places, input_goal}
use Rattle.lf_cases.specs.Pattern.{Pattern, head_pattern, of_constant}
use Rattle.lf_coverage.specs.Matching.{ArePlaces}
use Rattle.lf_numbered.specs.EntryConstants.{with_entries, IsFreeFrom}
use Rattle.lf_numbered.specs.NumberedBesideGiven.{IsTypedBesideByNumber}
use Rattle.lf_numbered.specs.NumberedCase.{NumberedCase}
use Rattle.lf_numbered.specs.Numbering.{numbered}
use Rattle.lf_numbered.specs.OwnTerms.{blocks_of}

-- the head of a constant of this type
abbrev pub closed_head : LfType → Pattern
closed_head U = head_pattern (constant_clause U) (of_constant U)

-- Each clause's family is the target of a closed type.
abbrev pub ClauseIsClosed : Type 0
ClauseIsClosed = (Σ : Signature) → IsSignature Σ → (W : List Block) → AreTypedBlocks Σ W → (c : Clause) → IsClause Σ W c → (U : LfType) × IsType Σ [] U × (target U ≡ target c.type)

-- By number a goal of inputs is typed beside each head of a closed type of its family.
abbrev pub InputGoalIsBesideByNumber : Type 0
InputGoalIsBesideByNumber = (Σ : Signature) → IsSignature Σ → (W : List Block) → AreTypedBlocks Σ W → (first : ℕ) → IsFreeFrom Σ first → (a : ℕ) (m : List Bool) (K : Kind) → Σ.kinds a ≡ Some K → MentionChosenOnly nothing m K → (U : LfType) → IsType Σ [] U → target U ≡ a → IsTypedBesideByNumber Σ first W (numbered first (input_goal a m K)) (closed_head U)

-- And the arguments of a case that is typed beside one have the types of their places.
abbrev pub BesideHasTypedPlaces : Type 0
BesideHasTypedPlaces = (Σ : Signature) → IsSignature Σ → (W : List Block) → AreTypedBlocks Σ W → (first : ℕ) → IsFreeFrom Σ first → (C : NumberedCase) (U : LfType) → IsType Σ [] U → IsTypedBesideByNumber Σ first W C (closed_head U) → (K : Kind) → Σ.kinds (target U) ≡ Some K → (T : Spine) × ArePlaces C.arguments T × TypedPlaces (with_entries Σ first (blocks_of C.blocks)) (covered_places C.arguments) C.variables T K
