-- Which families the variables have that the strategy may split: those of the set beside which the case is to be covered. So runs that split at
-- candidates cover, where each such set that holds an item's family holds what the item's type quantifies.
use Rattle.std.specs.Prelude.{◌≡◌, ℕ, List, [], ◌∷◌, Bool, true, cond, Some}
use Rattle.lf.specs.Syntax.{LfType, Kind}
use Rattle.lf.specs.Typing.{Signature, TypeAt, IsSignature}
use Rattle.lf.specs.Variables.{target}
use Rattle.lf.specs.Subordination.{Block, Member, AreTypedBlocks, IsBelowTest}
use Rattle.lf_checks.specs.Clause.{IsSubgoal, constant_clause, scope}
use Rattle.lf_checks.specs.Ground.{UsesGoal}
use Rattle.lf_checks.specs.Marks.{Mark, HasSoundMarks, NoneFree, input_places}
use Rattle.lf_cases.specs.OutputGoal.{output_goal}
use Rattle.lf_cases.specs.Case.{Case, items_context}
use Rattle.lf_cases.specs.Candidates.{case_candidates}
use Rattle.lf_cases.specs.Pattern.{Pattern, IsCoveredCase, of_constant, subgoal_pattern}
use Rattle.lf_cases.specs.Split.{Ends, HasNoBlockVariable}
use Rattle.lf_coverage.specs.Calls.{CoverIs, IsBeside, covered}
use Rattle.lf_coverage.specs.Heads.{IsTypedCase}
use Rattle.lf_coverage.specs.Leaf.{IsInstanceLeaf, IsTypedPattern}
use Rattle.lf_coverage.specs.Matching.{HoldsTypes}
use Rattle.lf_coverage.specs.RefutedSplits.{IsRefutedSplit}
use Rattle.lf_coverage.specs.Subordinate.{AllQuantifiersAreBelow}
use Rattle.lf_coverage.specs.TypedCase.{IsTypedBeside}

-- A candidate of a case that is typed beside the pattern is of a family of each set beside which the case is to be covered. In a case of E : exp and
-- N : nat, whose covered argument is N, the one candidate is N, and nat is in each such set; exp need not be.
abbrev pub CandidateIsInSet : Type 0
CandidateIsInSet = (Σ : Signature) (W : List Block) (S : ℕ → Bool) (C : Case) (p : Pattern) → IsTypedBeside Σ W C p → HasNoBlockVariable C.items → IsBeside Σ W S C → (x : ℕ) → Member x (case_candidates C p) → (X : LfType) → TypeAt (items_context C.items) x X → S (target X) ≡ true

-- In {x:A} B, where the family of B is in S, that of A is too.
abbrev pub within : (ℕ → Bool) → ℕ → ℕ → Bool
within S a b = cond (S a) (S b) true

-- A case is split at a candidate of one of the patterns, and at each head unification answers or refutes.
abbrev pub RefutesCandidate : Signature → List Block → (ℕ → ℕ → Bool) → List Pattern → Case → List Case → Type 0
RefutesCandidate Σ W below ps C Cs = (x : ℕ) × (p : Pattern) × Member p ps × Member x (case_candidates C p) × IsRefutedSplit Σ W below C x Cs

-- A run of splits at candidates that ends at instances of patterns covers its goal, where this is typed beside each pattern, beside each set that holds,
-- where it holds the family of an item, those that the item's type quantifies. The set need not hold the families of all items.
abbrev pub CandidateRunCoversBeside : Type 0
CandidateRunCoversBeside = (Σ : Signature) → IsSignature Σ → (W : List Block) → AreTypedBlocks Σ W → (below : ℕ → ℕ → Bool) → ((f : ℕ) → IsBelowTest Σ W (below f) f) → (ps : List Pattern) → ((p : Pattern) → Member p ps → IsTypedPattern Σ p) → (goal : Case) → HasNoBlockVariable goal.items → IsTypedCase Σ W goal → ((p : Pattern) → Member p ps → IsTypedBeside Σ W goal p) → AllQuantifiersAreBelow below (items_context goal.items) → (S : ℕ → Bool) → IsBeside Σ W S goal → AllQuantifiersAreBelow (within S) (items_context goal.items) → Ends (IsInstanceLeaf Σ W ps) (RefutesCandidate Σ W below ps) goal → IsCoveredCase Σ W S ps goal

-- A set that holds what is below its families does so for each type that quantifies only over what is below.
abbrev pub ClosedSetsAreWithin : Type 0
ClosedSetsAreWithin = (below : ℕ → ℕ → Bool) (S : ℕ → Bool) → ((a b : ℕ) → below a b ≡ true → S a ≡ true → S b ≡ true) → (G : List LfType) → AllQuantifiersAreBelow below G → AllQuantifiersAreBelow (within S) G

-- So such a run covers its goal beside each set that holds what is below its families. One is the set of those below a family.
abbrev pub CandidateRunCoversClosed : Type 0
CandidateRunCoversClosed = (Σ : Signature) → IsSignature Σ → (W : List Block) → AreTypedBlocks Σ W → (below : ℕ → ℕ → Bool) → ((f : ℕ) → IsBelowTest Σ W (below f) f) → (ps : List Pattern) → ((p : Pattern) → Member p ps → IsTypedPattern Σ p) → (goal : Case) → HasNoBlockVariable goal.items → IsTypedCase Σ W goal → ((p : Pattern) → Member p ps → IsTypedBeside Σ W goal p) → AllQuantifiersAreBelow below (items_context goal.items) → (S : ℕ → Bool) → ((a b : ℕ) → below a b ≡ true → S a ≡ true → S b ≡ true) → IsBeside Σ W S goal → Ends (IsInstanceLeaf Σ W ps) (RefutesCandidate Σ W below ps) goal → IsCoveredCase Σ W S ps goal

-- It is answered as covered where each set beside which this is asked is so. Beside a variable of nat -> bool the set of bool alone isn't.
abbrev pub CandidateRunCovers : Type 0
CandidateRunCovers = (Σ : Signature) → IsSignature Σ → (W : List Block) → AreTypedBlocks Σ W → (below : ℕ → ℕ → Bool) → ((f : ℕ) → IsBelowTest Σ W (below f) f) → (ps : List Pattern) → ((p : Pattern) → Member p ps → IsTypedPattern Σ p) → (goal : Case) → HasNoBlockVariable goal.items → IsTypedCase Σ W goal → ((p : Pattern) → Member p ps → IsTypedBeside Σ W goal p) → AllQuantifiersAreBelow below (items_context goal.items) → ((S : ℕ → Bool) → IsBeside Σ W S goal → AllQuantifiersAreBelow (within S) (items_context goal.items)) → Ends (IsInstanceLeaf Σ W ps) (RefutesCandidate Σ W below ps) goal → CoverIs Σ W below ps goal covered

-- The goal of a subgoal's outputs in the clause of a constant, where what is ground holds the variables in the types of its variables, is covered
-- beside each set that holds what is below its families.
abbrev pub CandidateRunCoversOutputs : Type 0
CandidateRunCoversOutputs = (Σ : Signature) → IsSignature Σ → (W : List Block) → AreTypedBlocks Σ W → (below : ℕ → ℕ → Bool) → ((f : ℕ) → IsBelowTest Σ W (below f) f) → (m : ℕ → List Mark) (k : ℕ) (T : LfType) → Σ.types k ≡ Some T → (U : ℕ → Bool) → HoldsTypes U (scope (constant_clause T)) → (i : ℕ) (A : LfType) → IsSubgoal (constant_clause T) i A → UsesGoal U (input_places (m (target A))) A → HasSoundMarks Σ (target A) (m (target A)) → NoneFree (m (target A)) → (K : Kind) → Σ.kinds (target A) ≡ Some K → (S : ℕ → Bool) → ((a b : ℕ) → below a b ≡ true → S a ≡ true → S b ≡ true) → IsBeside Σ W S (output_goal below m (of_constant T) U A K) → Ends (IsInstanceLeaf Σ W (subgoal_pattern (constant_clause T) (of_constant T) A ∷ [])) (RefutesCandidate Σ W below (subgoal_pattern (constant_clause T) (of_constant T) A ∷ [])) (output_goal below m (of_constant T) U A K) → IsCoveredCase Σ W S (subgoal_pattern (constant_clause T) (of_constant T) A ∷ []) (output_goal below m (of_constant T) U A K)

-- And it is answered as covered where each set beside which this is asked holds, where it holds the family of an item, those that the item's type
-- quantifies.
abbrev pub CandidateRunAnswersOutputs : Type 0
CandidateRunAnswersOutputs = (Σ : Signature) → IsSignature Σ → (W : List Block) → AreTypedBlocks Σ W → (below : ℕ → ℕ → Bool) → ((f : ℕ) → IsBelowTest Σ W (below f) f) → (m : ℕ → List Mark) (k : ℕ) (T : LfType) → Σ.types k ≡ Some T → (U : ℕ → Bool) → HoldsTypes U (scope (constant_clause T)) → (i : ℕ) (A : LfType) → IsSubgoal (constant_clause T) i A → UsesGoal U (input_places (m (target A))) A → HasSoundMarks Σ (target A) (m (target A)) → NoneFree (m (target A)) → (K : Kind) → Σ.kinds (target A) ≡ Some K → ((S : ℕ → Bool) → IsBeside Σ W S (output_goal below m (of_constant T) U A K) → AllQuantifiersAreBelow (within S) (items_context (output_goal below m (of_constant T) U A K).items)) → Ends (IsInstanceLeaf Σ W (subgoal_pattern (constant_clause T) (of_constant T) A ∷ [])) (RefutesCandidate Σ W below (subgoal_pattern (constant_clause T) (of_constant T) A ∷ [])) (output_goal below m (of_constant T) U A K) → CoverIs Σ W below (subgoal_pattern (constant_clause T) (of_constant T) A ∷ []) (output_goal below m (of_constant T) U A K) covered
