-- The laws of matching by terms of cases with block variables by number, with patterns of any clause.
use Rattle.std.specs.Prelude.{◌≡◌, ℕ, List, [], true, false, Some, ◌↔◌}
use Rattle.lf.specs.Syntax.{Spine, Kind}
use Rattle.lf.specs.Substitution.{Image}
use Rattle.lf.specs.Typing.{Signature, IsSignature}
use Rattle.lf.specs.Subordination.{Block, Member, AreTypedBlocks}
use Rattle.lf.specs.Variables.{target, nothing, everything}
use Rattle.lf_checks.specs.Clause.{Clause, IsClause, outside}
use Rattle.lf_checks.specs.Ground.{UsesGoal}
use Rattle.lf_checks.specs.Marks.{MentionChosenOnly, TypedPlaces}
use Rattle.lf_cases.specs.Case.{covered_places}
use Rattle.lf_cases.specs.Pattern.{Pattern, head_pattern, is_given, origin}
use Rattle.lf_coverage.specs.Leaf.{IsTypedPattern}
use Rattle.lf_coverage.specs.Matching.{ArePlaces, MatchesByTerms, other_places}
use Rattle.lf_coverage.specs.MeetStore.{IsConstants}
use Rattle.lf_numbered.specs.EntryConstants.{with_entries, IsFreeFrom}
use Rattle.lf_numbered.specs.EntryPatterns.{IsInstanceOfPattern}
use Rattle.lf_numbered.specs.EntryPatternsMatching.{placed_values}
use Rattle.lf_numbered.specs.EntryPatternsRuns.{IsNumberedLeaf}
use Rattle.lf_numbered.specs.EntryTerms.{IsTried, MatchesWith, MatchesByNumber, known_in, IsTypedBesideWith}
use Rattle.lf_numbered.specs.NumberedCase.{NumberedCase}
use Rattle.lf_numbered.specs.OwnStores.{as_case}
use Rattle.lf_numbered.specs.OwnTerms.{blocks_of}
use Rattle.lf_numbered.specs.TypedNumbered.{IsTypedNumberedCase}

-- An instance of a typed pattern matches it by terms.
abbrev pub NumberedInstanceMatchesAny : Type 0
NumberedInstanceMatchesAny = (Σ : Signature) → IsSignature Σ → (W : List Block) → AreTypedBlocks Σ W → (first : ℕ) → IsFreeFrom Σ first → (C : NumberedCase) → IsTypedNumberedCase Σ first W C → (p : Pattern) → IsTypedPattern Σ p → IsInstanceOfPattern Σ first C p → MatchesByNumber first C p

-- A case of inputs whose arguments have the types of the covered places, which mention covered places only, and which matches the head of a clause, of an
-- entry too, with something that is tried, is an instance of it by the values that matching finds: nothing else has to be typed.
abbrev pub HeadMatchIsNumberedInstance : Type 0
HeadMatchIsNumberedInstance = (Σ : Signature) → IsSignature Σ → (W : List Block) → AreTypedBlocks Σ W → (first : ℕ) → IsFreeFrom Σ first → (C : NumberedCase) → IsTypedNumberedCase Σ first W C → (c : Clause) (i : IsClause Σ W c) → C.given ≡ [] → C.local ≡ [] → (K : Kind) → Σ.kinds (target c.type) ≡ Some K → MentionChosenOnly nothing (covered_places C.arguments) K → (T : Spine) → ArePlaces C.arguments T → TypedPlaces (with_entries Σ first (blocks_of C.blocks)) (covered_places C.arguments) C.variables T K → (φ : ℕ → Image) → IsTried first C (origin i) false φ → MatchesWith C (head_pattern c (origin i)) φ → (h : IsInstanceOfPattern Σ first C (head_pattern c (origin i))) × (h.values ≡ placed_values C (head_pattern c (origin i)) φ)

-- So matching by terms decides whether such a case is an instance of the head of a clause, of an entry too.
abbrev pub NumberedHeadIsDecided : Type 0
NumberedHeadIsDecided = (Σ : Signature) → IsSignature Σ → (W : List Block) → AreTypedBlocks Σ W → (first : ℕ) → IsFreeFrom Σ first → (C : NumberedCase) → IsTypedNumberedCase Σ first W C → (c : Clause) (i : IsClause Σ W c) → C.given ≡ [] → C.local ≡ [] → (K : Kind) → Σ.kinds (target c.type) ≡ Some K → MentionChosenOnly nothing (covered_places C.arguments) K → (T : Spine) → ArePlaces C.arguments T → TypedPlaces (with_entries Σ first (blocks_of C.blocks)) (covered_places C.arguments) C.variables T K → (IsInstanceOfPattern Σ first C (head_pattern c (origin i)) ↔ MatchesByNumber first C (head_pattern c (origin i))) × Dec (IsInstanceOfPattern Σ first C (head_pattern c (origin i)))

-- A case that is typed beside a pattern with what is tried put in, where the pattern has at the other places and in the types of its local variables only
-- variables for which terms are given and what stands outside its clause, and which so matches it, is an instance by the values that matching finds.
abbrev pub GoalMatchIsNumberedInstance : Type 0
GoalMatchIsNumberedInstance = (Σ : Signature) → IsSignature Σ → (W : List Block) → AreTypedBlocks Σ W → (first : ℕ) → IsFreeFrom Σ first → (C : NumberedCase) → IsTypedNumberedCase Σ first W C → (p : Pattern) → IsTypedPattern Σ p → ((i : ℕ) → is_given C.given i ≡ true → outside p.clause.type everything i ≡ false) → UsesGoal (known_in C p) (other_places C.arguments) p.type → (φ : ℕ → Image) → IsTried first C p.origin p.at_first φ → IsTypedBesideWith Σ first C p φ → MatchesWith C p φ → (h : IsInstanceOfPattern Σ first C p) × (h.values ≡ placed_values C p φ)

-- So matching by terms decides whether a case that is typed beside a pattern of any clause with all that is tried is an instance of it: whether the goal
-- of a subgoal's outputs, of an entry's clause too, is an instance of the subgoal.
abbrev pub NumberedGoalIsDecided : Type 0
NumberedGoalIsDecided = (Σ : Signature) → IsSignature Σ → (W : List Block) → AreTypedBlocks Σ W → (first : ℕ) → IsFreeFrom Σ first → (C : NumberedCase) → IsTypedNumberedCase Σ first W C → (p : Pattern) → IsTypedPattern Σ p → ((i : ℕ) → is_given C.given i ≡ true → outside p.clause.type everything i ≡ false) → UsesGoal (known_in C p) (other_places C.arguments) p.type → ((φ : ℕ → Image) → IsTried first C p.origin p.at_first φ → IsTypedBesideWith Σ first C p φ) → (IsInstanceOfPattern Σ first C p ↔ MatchesByNumber first C p) × Dec (IsInstanceOfPattern Σ first C p)

-- A case that so matches one of the patterns of a list is a leaf of a run by number: a case of inputs that matches a head, and one of outputs.
abbrev pub NumberedHeadMatchIsLeaf : Type 0
NumberedHeadMatchIsLeaf = (Σ : Signature) → IsSignature Σ → (W : List Block) → AreTypedBlocks Σ W → (first : ℕ) → IsFreeFrom Σ first → (ps : List Pattern) (C : NumberedCase) → IsTypedNumberedCase Σ first W C → (c : Clause) (i : IsClause Σ W c) → Member (head_pattern c (origin i)) ps → C.given ≡ [] → C.local ≡ [] → (K : Kind) → Σ.kinds (target c.type) ≡ Some K → MentionChosenOnly nothing (covered_places C.arguments) K → (T : Spine) → ArePlaces C.arguments T → TypedPlaces (with_entries Σ first (blocks_of C.blocks)) (covered_places C.arguments) C.variables T K → MatchesByNumber first C (head_pattern c (origin i)) → IsNumberedLeaf Σ first W ps C

abbrev pub NumberedGoalMatchIsLeaf : Type 0
NumberedGoalMatchIsLeaf = (Σ : Signature) → IsSignature Σ → (W : List Block) → AreTypedBlocks Σ W → (first : ℕ) → IsFreeFrom Σ first → (ps : List Pattern) (C : NumberedCase) → IsTypedNumberedCase Σ first W C → (p : Pattern) → IsTypedPattern Σ p → Member p ps → ((i : ℕ) → is_given C.given i ≡ true → outside p.clause.type everything i ≡ false) → UsesGoal (known_in C p) (other_places C.arguments) p.type → ((φ : ℕ → Image) → IsTried first C p.origin p.at_first φ → IsTypedBesideWith Σ first C p φ) → MatchesByNumber first C p → IsNumberedLeaf Σ first W ps C

-- Of a constant's clause it is what matching over the signature with entries says.
abbrev pub ConstantMatchesByNumber : Type 0
ConstantMatchesByNumber = (Σ : Signature) (first : ℕ) (C : NumberedCase) (p : Pattern) → IsTypedPattern Σ p → IsConstants p.origin → MatchesByNumber first C p ↔ MatchesByTerms (as_case C) p
