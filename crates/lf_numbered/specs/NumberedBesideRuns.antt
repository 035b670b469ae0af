-- Runs of splits by number at which nothing is asked of the families in the types of arguments: what is asked of the signature and of the worlds once is
-- kept along them.
use Rattle.std.specs.Prelude.{◌≡◌, ℕ, List, [], ◌∷◌, Bool, true, Some}
use Rattle.lf.specs.Syntax.{LfType, Kind}
use Rattle.lf.specs.Typing.{Signature, IsSignature}
use Rattle.lf.specs.Variables.{target, binders, everything, nothing, FamiliesIn, Within}
use Rattle.lf.specs.Subordination.{Block, AreTypedBlocks, IsBelowTest, IsDeclared, SelfContained}
use Rattle.lf_checks.specs.Clause.{Clause, IsClause, IsSubgoal, outside, scope}
use Rattle.lf_checks.specs.Ground.{UsesGoal}
use Rattle.lf_checks.specs.Marks.{Mark, HasSoundMarks, MentionChosenOnly, NoneFree, input_places}
use Rattle.lf_checks.specs.Worlded.{IsSequence}
use Rattle.lf_cases.specs.Case.{Case, input_goal}
use Rattle.lf_cases.specs.Cover.{CoveredOutputs}
use Rattle.lf_cases.specs.Pattern.{Pattern, origin, subgoal_pattern}
use Rattle.lf_cases.specs.Raised.{PlacesBelow}
use Rattle.lf_cases.specs.Split.{HasOneBlockVariable}
use Rattle.lf_coverage.specs.Calls.{CoverIs, IsBeside, covered}
use Rattle.lf_numbered.specs.EntryConstants.{IsFreeFrom}
use Rattle.lf_numbered.specs.EntryPatternsOutputs.{numbered_output_goal}
use Rattle.lf_numbered.specs.EntryPatternsRuns.{IsCoveredByNumber, IsNumberedLeaf, IsNumberedSplit, HasOneBlock}
use Rattle.lf_cases.specs.Split.{Ends}
use Rattle.lf_coverage.specs.Heads.{IsTypedCase}
use Rattle.lf_coverage.specs.TypedLocal.{HasTypedLocal}
use Rattle.lf_numbered.specs.NumberedBeside.{AllTakeBelow, IsUnifiedByNumber, ItemsTakeBelow, TakesIn, WorldsTakeBelow}
use Rattle.lf_numbered.specs.NumberedCase.{NumberedCase}
use Rattle.lf_numbered.specs.Numbering.{numbered}
use Rattle.lf_numbered.specs.TypedNumbered.{IsTypedNumberedCase}

-- A split is one, beside each self-contained set that holds the families in the variable's type.
abbrev pub UnifiedByNumberIsSplit : Type 0
UnifiedByNumberIsSplit = (Σ : Signature) → IsSignature Σ → (W : List Block) → AreTypedBlocks Σ W → (below : ℕ → ℕ → Bool) → ((f : ℕ) → IsBelowTest Σ W (below f) f) → WorldsTakeBelow below W → (S : ℕ → Bool) → SelfContained Σ W S → (first : ℕ) → IsFreeFrom Σ first → (C : NumberedCase) → IsTypedNumberedCase Σ first W C → AllTakeBelow below C.variables → (x : ℕ) (Cs : List NumberedCase) (sp : IsUnifiedByNumber Σ first W below C x Cs) → FamiliesIn S sp.type → IsNumberedSplit Σ first W S C Cs

-- A case is split so at one of its variables, of which it is known what it takes: its own family is in S, and with the own family of an argument all those
-- in the argument's type; or so it is with each set beside which the goal is to be covered.
abbrev pub UnifiesByNumber : Signature → ℕ → List Block → (ℕ → ℕ → Bool) → (ℕ → Bool) → NumberedCase → List NumberedCase → Type 0
UnifiesByNumber Σ first W below S C Cs = (x : ℕ) × (sp : IsUnifiedByNumber Σ first W below C x Cs) × TakesIn S sp.type

abbrev pub UnifiesByNumberFor : Signature → ℕ → List Block → (ℕ → ℕ → Bool) → Case → NumberedCase → List NumberedCase → Type 0
UnifiesByNumberFor Σ first W below goal C Cs = (x : ℕ) × (sp : IsUnifiedByNumber Σ first W below C x Cs) × ((S : ℕ → Bool) → IsBeside Σ W S goal → TakesIn S sp.type)

-- A run of these that ends at instances of patterns covers its goal, where this is typed, has one block variable at most, and what its free variables
-- take quantifies only over what is below.
abbrev pub UnifiedByNumberCovers : Type 0
UnifiedByNumberCovers = (Σ : Signature) → IsSignature Σ → (W : List Block) → AreTypedBlocks Σ W → (below : ℕ → ℕ → Bool) → ((f : ℕ) → IsBelowTest Σ W (below f) f) → WorldsTakeBelow below W → (S : ℕ → Bool) → SelfContained Σ W S → (first : ℕ) → IsFreeFrom Σ first → (ps : List Pattern) (C : NumberedCase) → IsTypedNumberedCase Σ first W C → HasOneBlock C → AllTakeBelow below C.variables → Ends (IsNumberedLeaf Σ first W ps) (UnifiesByNumber Σ first W below S) C → IsCoveredByNumber Σ first W S ps C

-- So a run from the numbered form of a typed goal answers that it is covered.
abbrev pub UnifiedByNumberIsAnswer : Type 0
UnifiedByNumberIsAnswer = (Σ : Signature) → IsSignature Σ → (W : List Block) → AreTypedBlocks Σ W → (below : ℕ → ℕ → Bool) → ((f : ℕ) → IsBelowTest Σ W (below f) f) → WorldsTakeBelow below W → (first : ℕ) → IsFreeFrom Σ first → (ps : List Pattern) (goal : Case) → HasOneBlockVariable goal.items → IsTypedCase Σ W goal → HasTypedLocal Σ goal → ItemsTakeBelow below goal.items → Ends (IsNumberedLeaf Σ first W ps) (UnifiesByNumberFor Σ first W below goal) (numbered first goal) → CoverIs Σ W below ps goal covered

-- From the goal of inputs nothing is asked of its variables.
abbrev pub UnifiedByNumberCoversInputs : Type 0
UnifiedByNumberCoversInputs = (Σ : Signature) → IsSignature Σ → (W : List Block) → AreTypedBlocks Σ W → (below : ℕ → ℕ → Bool) → ((f : ℕ) → IsBelowTest Σ W (below f) f) → WorldsTakeBelow below W → (first : ℕ) → IsFreeFrom Σ first → (ps : List Pattern) (a : ℕ) (m : List Bool) (K : Kind) → Σ.kinds a ≡ Some K → MentionChosenOnly nothing m K → Ends (IsNumberedLeaf Σ first W ps) (UnifiesByNumberFor Σ first W below (input_goal a m K)) (numbered first (input_goal a m K)) → CoverIs Σ W below ps (input_goal a m K) covered

-- The outputs of any clause's subgoal are covered where there is such a run for each way in which the clause comes: nothing is asked of its variables.
abbrev pub UnifiedByNumberGivesOutputs : Type 0
UnifiedByNumberGivesOutputs = (Σ : Signature) → IsSignature Σ → (W : List Block) → AreTypedBlocks Σ W → (first : ℕ) → IsFreeFrom Σ first → (below : ℕ → ℕ → Bool) → ((f : ℕ) → IsBelowTest Σ W (below f) f) → WorldsTakeBelow below W → (m : ℕ → List Mark) (f : ℕ) → IsDeclared Σ f → (c : Clause) → IsClause Σ W c → below f (target c.type) ≡ true → (U : ℕ → Bool) → Within (outside c.type everything) U → (i : ℕ) (A : LfType) → IsSubgoal c i A → IsSequence Σ W (scope c) (binders [] A) → UsesGoal U (input_places (m (target A))) A → HasSoundMarks Σ (target A) (m (target A)) → NoneFree (m (target A)) → (K : Kind) → Σ.kinds (target A) ≡ Some K → PlacesBelow Σ below f K → ((d : IsClause Σ W c) → Ends (IsNumberedLeaf Σ first W (subgoal_pattern c (origin d) A ∷ [])) (UnifiesByNumber Σ first W below (below f)) (numbered_output_goal first below m (origin d) U A K)) → CoveredOutputs Σ m W (below f) c U A
