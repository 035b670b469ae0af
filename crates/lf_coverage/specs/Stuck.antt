-- Where the strategy of coverage is stuck: a case of inputs in the empty world that is no instance of a pattern, and that none of them splits.
use Rattle.std.specs.Prelude.{◌≡◌, ℕ, List, [], Bool, ◌⊎◌, Some}
use Rattle.lf.specs.Syntax.{LfType, Kind, atom}
use Rattle.lf.specs.Subordination.{Block, Member, AreTypedBlocks, IsBelowTest}
use Rattle.lf.specs.Typing.{Signature, IsSignature, IsType}
use Rattle.lf.specs.Variables.{target, target_arguments, nothing, everything}
use Rattle.lf_unification.specs.Solving.{Never, Solved}
use Rattle.lf_unification.specs.Unifiers.{Store}
use Rattle.lf_checks.specs.Clause.{Clause, IsClause, constant_clause}
use Rattle.lf_checks.specs.Ground.{UsesGoal}
use Rattle.lf_checks.specs.Marks.{Mark, MentionChosenOnly, input_places}
use Rattle.lf_cases.specs.Candidates.{case_candidates, free_among}
use Rattle.lf_cases.specs.Case.{Case, items_context, covered_places, input_goal}
use Rattle.lf_cases.specs.Full.{IsLinear, IsFull}
use Rattle.lf_cases.specs.Missing.{CommonInstance, IsInstanceOfGoal, IsMissing}
use Rattle.lf_cases.specs.Pattern.{AreHeadsOf, Pattern, ground_in, head_pattern, of_constant}
use Rattle.lf_cases.specs.Reached.{FirstCandidate, IsApart, IsInstanceOf, IsUnsplit, Meets, Reached}
use Rattle.lf_cases.specs.Split.{HasNoBlockVariable}
use Rattle.lf_coverage.specs.Heads.{IsTypedCase}
use Rattle.lf_coverage.specs.FullMatching.{AllHavePatterns, PlacesHavePatterns}
use Rattle.lf_coverage.specs.Matching.{MatchesByTerms}
use Rattle.lf_coverage.specs.MeetStore.{IsOpen, meet_store}
use Rattle.lf_coverage.specs.Subordinate.{AllQuantifiersAreBelow}
use Rattle.lf_coverage.specs.SubordinateRuns.{ComesBy}
use Rattle.lf_coverage.specs.TypedCase.{IsTypedBeside}
use Rattle.lf_coverage.specs.TypedLocal.{HasTypedLocal}
use Rattle.lf_coverage.specs.UnifiedSplit.{IsAnsweredSplit, AnswersEachHead}

-- The pattern is the head of a constant's clause for the family a: each variable in its inputs is applied to distinct bound variables, and the clause
-- is linear and full. So is plus-s; not k (F z), where F is applied to a constant, nor eq-r, which has X twice.
pub record IsStrategyHead (Σ : Signature) (below : ℕ → ℕ → Bool) (m : ℕ → List Mark) (a : ℕ) (p : Pattern) : Type 0 where
  pub constant : ℕ
  pub type : LfType
  pub declared : Σ.types constant ≡ Some type
  pub of_family : target type ≡ a
  pub is_head : p ≡ head_pattern (constant_clause type) (of_constant type)
  pub patterns : PlacesHavePatterns nothing everything (input_places (m a)) (target_arguments type)
  pub linear : IsLinear m (constant_clause type)
  pub full : IsFull Σ below m (constant_clause type)

-- A case of inputs: nothing is given, the inputs of its family are what it has, its free variables quantify only over what is below and are applied
-- to distinct bound variables. So are plus X Y _ and eq z Y; not eq z (F z), nor plus X Y Z.
pub record IsStrategyCase (below : ℕ → ℕ → Bool) (m : ℕ → List Mark) (C : Case) : Type 0 where
  pub none_given : C.given ≡ []
  pub inputs : covered_places C.arguments ≡ input_places (m C.family)
  pub quantifies_below : AllQuantifiersAreBelow below (items_context C.items)
  pub patterns : AllHavePatterns nothing (free_among C.items) C.arguments

-- Each pattern of the list is such a head, and the case is typed beside it.
abbrev pub AreHeadsBeside : Signature → (ℕ → ℕ → Bool) → (ℕ → List Mark) → List Pattern → Case → Type 0
AreHeadsBeside Σ below m ps C = (p : Pattern) → Member p ps → IsStrategyHead Σ below m C.family p × IsTypedBeside Σ [] C p

-- the case shares an instance with no pattern of the list
abbrev pub SharesNone : Signature → List Pattern → Case → Type 0
SharesNone Σ ps C = (p : Pattern) → Member p ps → CommonInstance Σ [] C p → ⊥

-- What becomes of a case: it is an instance of a pattern; or it has a first candidate, at which it is split; or it shares an instance with no pattern.
abbrev pub Proceeds : Signature → List Pattern → Case → Type 0
Proceeds Σ ps C = ((p : Pattern) × Member p ps × IsInstanceOf Σ [] C p) ⊎ ((x : ℕ) × FirstCandidate Σ [] (IsOpen Σ) C x ps) ⊎ SharesNone Σ ps C

-- Unification of the case with the pattern comes to an end: it never solves, or it is solved, or nothing is decided.
abbrev pub IsAnswered : Signature → Kind → Case → Pattern → Type 0
IsAnswered Σ K C p = Never Σ [] (meet_store C p K) ⊎ ((after : Store) × Solved Σ (meet_store C p K) after) ⊎ IsOpen Σ C p

-- Of a linear clause strict occurrences ask the same: where each variable in the inputs of its head has one there, all stand on distinct bound variables.
abbrev pub StrictIsPattern : Type 0
StrictIsPattern = (Σ : Signature) (U : LfType) → IsType Σ [] U → (m : ℕ → List Mark) → IsLinear m (constant_clause U) → UsesGoal (ground_in (head_pattern (constant_clause U) (of_constant U)) (input_places (m (target U))) []) (input_places (m (target U))) (atom (target U) (target_arguments U)) → PlacesHavePatterns nothing everything (input_places (m (target U))) (target_arguments U)

-- The heads of the clauses of a family are such, where each clause is linear and full and its head has patterns at the inputs.
abbrev pub HeadsAreOfStrategy : Type 0
HeadsAreOfStrategy = (Σ : Signature) (below : ℕ → ℕ → Bool) (m : ℕ → List Mark) (a : ℕ) (ps : List Pattern) → AreHeadsOf Σ [] a ps → ((c : Clause) → IsClause Σ [] c → target c.type ≡ a → PlacesHavePatterns nothing everything (input_places (m a)) (target_arguments c.type) × IsLinear m c × IsFull Σ below m c) → (p : Pattern) → Member p ps → IsStrategyHead Σ below m a p

-- In the empty world such a case that shares an instance with such a head and has no candidate with it matches it by terms: the values that make the
-- inputs of the head those of the case are the ones that are read off.
abbrev pub NoCandidateMatches : Type 0
NoCandidateMatches = (Σ : Signature) → IsSignature Σ → (below : ℕ → ℕ → Bool) → ((f : ℕ) → IsBelowTest Σ [] (below f) f) → (m : ℕ → List Mark) (C : Case) → IsStrategyCase below m C → (p : Pattern) → IsStrategyHead Σ below m C.family p → IsTypedBeside Σ [] C p → CommonInstance Σ [] C p → case_candidates C p ≡ [] → MatchesByTerms C p

-- So it is an instance of the head, where the types of the inputs mention inputs only.
abbrev pub NoCandidateIsInstance : Type 0
NoCandidateIsInstance = (Σ : Signature) → IsSignature Σ → (below : ℕ → ℕ → Bool) → ((f : ℕ) → IsBelowTest Σ [] (below f) f) → (m : ℕ → List Mark) (C : Case) → IsStrategyCase below m C → (K : Kind) → Σ.kinds C.family ≡ Some K → MentionChosenOnly nothing (input_places (m C.family)) K → (p : Pattern) → IsStrategyHead Σ below m C.family p → IsTypedBeside Σ [] C p → CommonInstance Σ [] C p → case_candidates C p ≡ [] → IsInstanceOf Σ [] C p

-- So where all patterns are such heads a case that can't be split is open with one of them, and shares an instance with none.
abbrev pub UnsplitSharesNone : Type 0
UnsplitSharesNone = (Σ : Signature) → IsSignature Σ → (below : ℕ → ℕ → Bool) → ((f : ℕ) → IsBelowTest Σ [] (below f) f) → (m : ℕ → List Mark) (C : Case) → IsStrategyCase below m C → (K : Kind) → Σ.kinds C.family ≡ Some K → MentionChosenOnly nothing (input_places (m C.family)) K → (ps : List Pattern) → AreHeadsBeside Σ below m ps C → IsUnsplit Σ [] (IsOpen Σ) ps C → SharesNone Σ ps C × ((p : Pattern) × Member p ps × IsOpen Σ C p)

-- So where nothing is open the strategy is never stuck.
abbrev pub NeverUnsplit : Type 0
NeverUnsplit = (Σ : Signature) → IsSignature Σ → (below : ℕ → ℕ → Bool) → ((f : ℕ) → IsBelowTest Σ [] (below f) f) → (m : ℕ → List Mark) (C : Case) → IsStrategyCase below m C → (K : Kind) → Σ.kinds C.family ≡ Some K → MentionChosenOnly nothing (input_places (m C.family)) K → (ps : List Pattern) → AreHeadsBeside Σ below m ps C → IsUnsplit Σ [] (λ D p. ⊥) ps C → ⊥

-- A case goes on, where it is known of each pattern whether it meets the case: also with patterns that are open.
abbrev pub CaseProceeds : Type 0
CaseProceeds = (Σ : Signature) → IsSignature Σ → (below : ℕ → ℕ → Bool) → ((f : ℕ) → IsBelowTest Σ [] (below f) f) → (m : ℕ → List Mark) (C : Case) → IsStrategyCase below m C → (K : Kind) → Σ.kinds C.family ≡ Some K → MentionChosenOnly nothing (input_places (m C.family)) K → (ps : List Pattern) → AreHeadsBeside Σ below m ps C → ((p : Pattern) → Member p ps → Meets Σ [] (IsOpen Σ) C p ⊎ IsApart Σ [] (IsOpen Σ) C p) → Proceeds Σ ps C

-- Each case that comes from a typed goal without block variables by splits on which unification answers is a typed instance of the goal.
abbrev pub ComesAsInstance : Type 0
ComesAsInstance = (Σ : Signature) → IsSignature Σ → (W : List Block) → AreTypedBlocks Σ W → (below : ℕ → ℕ → Bool) (goal : Case) → IsTypedCase Σ W goal → HasTypedLocal Σ goal → HasNoBlockVariable goal.items → (D : Case) → ComesBy (AnswersEachHead Σ W below) goal D → IsInstanceOfGoal Σ W goal D

-- A split of the strategy on which unification answers: of a case that is no instance, at its first candidate.
abbrev pub SplitsAtFirst : Signature → (ℕ → ℕ → Bool) → List Pattern → Case → List Case → Type 0
SplitsAtFirst Σ below ps C Cs = ((p : Pattern) → Member p ps → IsInstanceOf Σ [] C p → ⊥) × ((x : ℕ) × FirstCandidate Σ [] (IsOpen Σ) C x ps × IsAnsweredSplit Σ [] below C x Cs)

-- What comes by these from a typed goal in the empty world is reached, and comes by splits on which unification answers. So the laws below hold of it.
abbrev pub FirstSplitsReach : Type 0
FirstSplitsReach = (Σ : Signature) → IsSignature Σ → (below : ℕ → ℕ → Bool) (ps : List Pattern) (goal : Case) → IsTypedCase Σ [] goal → HasTypedLocal Σ goal → (D : Case) → ComesBy (SplitsAtFirst Σ below ps) goal D → Reached Σ [] (IsOpen Σ) below ps goal D × ComesBy (AnswersEachHead Σ [] below) goal D

-- From the goal of inputs in the empty world cases that come by such splits are those of the strategy, and typed beside each head, if only their free
-- variables are applied to distinct bound variables.
abbrev pub InputRunIsStrategys : Type 0
InputRunIsStrategys = (Σ : Signature) → IsSignature Σ → (below : ℕ → ℕ → Bool) → ((f : ℕ) → IsBelowTest Σ [] (below f) f) → (m : ℕ → List Mark) (a : ℕ) (K : Kind) → Σ.kinds a ≡ Some K → MentionChosenOnly nothing (input_places (m a)) K → (ps : List Pattern) → ((p : Pattern) → Member p ps → IsStrategyHead Σ below m a p) → (D : Case) → ComesBy (AnswersEachHead Σ [] below) (input_goal a (input_places (m a)) K) D → AllHavePatterns nothing (free_among D.items) D.arguments → (D.family ≡ a) × IsStrategyCase below m D × AreHeadsBeside Σ below m ps D

-- So the run isn't stuck at them where nothing is open. With what unification leaves open, one at which it is stuck is a missing case, and open with a
-- pattern.
abbrev pub InputRunIsNeverStuck : Type 0
InputRunIsNeverStuck = (Σ : Signature) → IsSignature Σ → (below : ℕ → ℕ → Bool) → ((f : ℕ) → IsBelowTest Σ [] (below f) f) → (m : ℕ → List Mark) (a : ℕ) (K : Kind) → Σ.kinds a ≡ Some K → MentionChosenOnly nothing (input_places (m a)) K → (ps : List Pattern) → ((p : Pattern) → Member p ps → IsStrategyHead Σ below m a p) → (D : Case) → ComesBy (AnswersEachHead Σ [] below) (input_goal a (input_places (m a)) K) D → AllHavePatterns nothing (free_among D.items) D.arguments → (IsUnsplit Σ [] (λ C p. ⊥) ps D → ⊥) × (IsUnsplit Σ [] (IsOpen Σ) ps D → IsMissing Σ [] ps (input_goal a (input_places (m a)) K) D × ((p : Pattern) × Member p ps × IsOpen Σ D p))

-- And where unification with each head comes to an end, they go on: each is an instance of a head, is split, or is missing.
abbrev pub InputRunProceeds : Type 0
InputRunProceeds = (Σ : Signature) → IsSignature Σ → (below : ℕ → ℕ → Bool) → ((f : ℕ) → IsBelowTest Σ [] (below f) f) → (m : ℕ → List Mark) (a : ℕ) (K : Kind) → Σ.kinds a ≡ Some K → MentionChosenOnly nothing (input_places (m a)) K → (ps : List Pattern) → ((p : Pattern) → Member p ps → IsStrategyHead Σ below m a p) → (D : Case) → ComesBy (AnswersEachHead Σ [] below) (input_goal a (input_places (m a)) K) D → AllHavePatterns nothing (free_among D.items) D.arguments → ((p : Pattern) → Member p ps → IsAnswered Σ K D p) → ((p : Pattern) × Member p ps × IsInstanceOf Σ [] D p) ⊎ ((x : ℕ) × FirstCandidate Σ [] (IsOpen Σ) D x ps) ⊎ IsMissing Σ [] ps (input_goal a (input_places (m a)) K) D
