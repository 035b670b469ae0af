-- Runs by number along which no family is looked at: in worlds whose `some` variables are of families of each set beside which coverage is asked, and so in
-- all worlds without `some` variables.
use Rattle.std.specs.Prelude.{◌≡◌, ℕ, List, [], ◌∷◌, Bool, true, Some}
use Rattle.lf.specs.Syntax.{LfType, Kind}
use Rattle.lf.specs.Typing.{Signature, IsSignature}
use Rattle.lf.specs.Variables.{target, binders, everything, nothing, FamiliesIn, Within}
use Rattle.lf.specs.Subordination.{Block, AreTypedBlocks, IsBelowTest, IsDeclared, Member, SelfContained}
use Rattle.lf_checks.specs.Clause.{Clause, IsClause, IsSubgoal, outside, scope}
use Rattle.lf_checks.specs.Ground.{UsesGoal}
use Rattle.lf_checks.specs.Marks.{Mark, HasSoundMarks, MentionChosenOnly, NoneFree, input_places}
use Rattle.lf_checks.specs.Worlded.{IsSequence}
use Rattle.lf_cases.specs.Case.{Item, free_variable, block_variable, Case, input_goal}
use Rattle.lf_cases.specs.Cover.{CoveredOutputs}
use Rattle.lf_cases.specs.Pattern.{Pattern, origin, subgoal_pattern}
use Rattle.lf_cases.specs.Raised.{PlacesBelow}
use Rattle.lf_cases.specs.Split.{HasOneBlockVariable}
use Rattle.lf_coverage.specs.Calls.{CoverIs, IsBeside, covered}
use Rattle.lf_numbered.specs.EntryConstants.{IsFreeFrom}
use Rattle.lf_numbered.specs.EntryPatternsOutputs.{numbered_output_goal}
use Rattle.lf_numbered.specs.EntryPatternsRuns.{IsNumberedLeaf}
use Rattle.lf_cases.specs.Split.{Ends}
use Rattle.lf_coverage.specs.Heads.{IsTypedCase}
use Rattle.lf_coverage.specs.SplitStore.{AllFamiliesIn}
use Rattle.lf_coverage.specs.TypedLocal.{HasTypedLocal}
use Rattle.lf_numbered.specs.NumberedBeside.{IsUnifiedByNumber, ItemsTakeBelow, WorldsTakeBelow}
use Rattle.lf_numbered.specs.NumberedCase.{NumberedCase}
use Rattle.lf_numbered.specs.Numbering.{numbered}
use Rattle.lf_numbered.specs.TypedNumbered.{IsTypedNumberedCase}

-- The families in the types of all `some` variables are in S.
abbrev pub WorldsAreIn : (ℕ → Bool) → List Block → Type 0
WorldsAreIn S W = (B : Block) → Member B W → AllFamiliesIn S B.some

-- Worlds without `some` variables are such, and take only what is below.
abbrev pub WorldsWithoutSome : Type 0
WorldsWithoutSome = (W : List Block) → ((B : Block) → Member B W → B.some ≡ []) → ((S : ℕ → Bool) → WorldsAreIn S W) × ((below : ℕ → ℕ → Bool) → WorldsTakeBelow below W)

-- those in the types of the free variables among items
abbrev pub FreeAreIn : (ℕ → Bool) → List Item → Type 0
FreeAreIn S [] = Unit {0}
FreeAreIn S (free_variable A ∷ I) = FamiliesIn S A × FreeAreIn S I
FreeAreIn S (block_variable B υ ∷ I) = FreeAreIn S I

-- Then, where the families in the types of a case's free variables are in S, so are those of each case of a split.
abbrev pub UnifiedByNumberKeepsFamilies : Type 0
UnifiedByNumberKeepsFamilies = (Σ : Signature) → IsSignature Σ → (W : List Block) → AreTypedBlocks Σ W → (below : ℕ → ℕ → Bool) (S : ℕ → Bool) → SelfContained Σ W S → WorldsAreIn S W → (first : ℕ) → IsFreeFrom Σ first → (C : NumberedCase) → IsTypedNumberedCase Σ first W C → AllFamiliesIn S C.variables → (x : ℕ) (Cs : List NumberedCase) (sp : IsUnifiedByNumber Σ first W below C x Cs) → FamiliesIn S sp.type × ((D : NumberedCase) → Member D Cs → AllFamiliesIn S D.variables)

-- a case is split at one of its variables
abbrev pub UnifiesEachByNumber : Signature → ℕ → List Block → (ℕ → ℕ → Bool) → NumberedCase → List NumberedCase → Type 0
UnifiesEachByNumber Σ first W below C Cs = (x : ℕ) × IsUnifiedByNumber Σ first W below C x Cs

-- So a run of splits that ends at instances of patterns answers that its goal is covered: nothing is asked of families but of the goal and the worlds.
abbrev pub UnifiedEachIsAnswer : Type 0
UnifiedEachIsAnswer = (Σ : Signature) → IsSignature Σ → (W : List Block) → AreTypedBlocks Σ W → (below : ℕ → ℕ → Bool) → ((f : ℕ) → IsBelowTest Σ W (below f) f) → WorldsTakeBelow below W → (first : ℕ) → IsFreeFrom Σ first → (ps : List Pattern) (goal : Case) → HasOneBlockVariable goal.items → IsTypedCase Σ W goal → HasTypedLocal Σ goal → ItemsTakeBelow below goal.items → ((S : ℕ → Bool) → IsBeside Σ W S goal → WorldsAreIn S W × FreeAreIn S goal.items) → Ends (IsNumberedLeaf Σ first W ps) (UnifiesEachByNumber Σ first W below) (numbered first goal) → CoverIs Σ W below ps goal covered

-- From the goal of inputs nothing is asked but of the worlds.
abbrev pub UnifiedEachCoversInputs : Type 0
UnifiedEachCoversInputs = (Σ : Signature) → IsSignature Σ → (W : List Block) → AreTypedBlocks Σ W → (below : ℕ → ℕ → Bool) → ((f : ℕ) → IsBelowTest Σ W (below f) f) → WorldsTakeBelow below W → (first : ℕ) → IsFreeFrom Σ first → (ps : List Pattern) (a : ℕ) (m : List Bool) (K : Kind) → Σ.kinds a ≡ Some K → MentionChosenOnly nothing m K → ((S : ℕ → Bool) → IsBeside Σ W S (input_goal a m K) → WorldsAreIn S W) → Ends (IsNumberedLeaf Σ first W ps) (UnifiesEachByNumber Σ first W below) (numbered first (input_goal a m K)) → CoverIs Σ W below ps (input_goal a m K) covered

-- Nor is it from the goal of the outputs of any clause's subgoal, an entry's too.
abbrev pub UnifiedEachGivesOutputs : Type 0
UnifiedEachGivesOutputs = (Σ : Signature) → IsSignature Σ → (W : List Block) → AreTypedBlocks Σ W → (first : ℕ) → IsFreeFrom Σ first → (below : ℕ → ℕ → Bool) → ((f : ℕ) → IsBelowTest Σ W (below f) f) → WorldsTakeBelow below W → (m : ℕ → List Mark) (f : ℕ) → IsDeclared Σ f → WorldsAreIn (below f) W → (c : Clause) → IsClause Σ W c → below f (target c.type) ≡ true → (U : ℕ → Bool) → Within (outside c.type everything) U → (i : ℕ) (A : LfType) → IsSubgoal c i A → IsSequence Σ W (scope c) (binders [] A) → UsesGoal U (input_places (m (target A))) A → HasSoundMarks Σ (target A) (m (target A)) → NoneFree (m (target A)) → (K : Kind) → Σ.kinds (target A) ≡ Some K → PlacesBelow Σ below f K → ((d : IsClause Σ W c) → Ends (IsNumberedLeaf Σ first W (subgoal_pattern c (origin d) A ∷ [])) (UnifiesEachByNumber Σ first W below) (numbered_output_goal first below m (origin d) U A K)) → CoveredOutputs Σ m W (below f) c U A
