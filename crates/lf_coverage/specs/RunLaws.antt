-- The laws of runs of the strategy that the functions of this crate carry, most of them where no item is a block variable.
use Rattle.std.specs.Prelude.{◌≡◌, ℕ, List, [], Bool, true, Some}
use Rattle.lf.specs.Syntax.{Head, LfType, Kind}
use Rattle.lf.specs.Typing.{Signature, TypeAt, IsSignature}
use Rattle.lf.specs.Subordination.{Block, Member, AreTypedBlocks, SelfContained}
use Rattle.lf.specs.Variables.{FamiliesIn, nothing}
use Rattle.lf_unification.specs.Solving.{Never, Solved}
use Rattle.lf_unification.specs.Unifiers.{Store}
use Rattle.lf_checks.specs.Below.{IsSubordination}
use Rattle.lf_checks.specs.Marks.{MentionChosenOnly}
use Rattle.lf_cases.specs.Case.{Item, Case, items_context, input_goal}
use Rattle.lf_cases.specs.Candidates.{free_among, case_candidates}
use Rattle.lf_cases.specs.Pattern.{Pattern}
use Rattle.lf_cases.specs.Missing.{AreTypedItems, IsInstanceOfGoal}
use Rattle.lf_cases.specs.Reached.{Reached, SplitHead, split_items}
use Rattle.lf_cases.specs.Split.{Ends, HasNoBlockVariable, HasOneBlockVariable}
use Rattle.lf_coverage.specs.Calls.{AreCasesBesideAll, CoverIs, IsBeside, covered, missing}
use Rattle.lf_coverage.specs.Heads.{IsTypedCase}
use Rattle.lf_coverage.specs.Leaf.{IsInstanceLeaf, IsTypedPattern}
use Rattle.lf_coverage.specs.MeetStore.{IsConstants, IsOpen, meet_store}
use Rattle.lf_coverage.specs.SplitStore.{AllFamiliesIn, solved_case}
use Rattle.lf_coverage.specs.TypedCase.{IsTypedBeside}
use Rattle.lf_coverage.specs.TypedLocal.{HasTypedLocal}
use Rattle.lf_coverage.specs.UnifiedSplit.{IsSolvedSplit, IsUnifiedSplit, SolvesEachHead}

-- In the empty world no typed item is a block variable.
abbrev pub EmptyWorldHasNoBlock : Type 0
EmptyWorldHasNoBlock = (Σ : Signature) (I : List Item) → AreTypedItems Σ [] I → HasNoBlockVariable I

-- So no case that the strategy reaches from a typed goal there has one.
abbrev pub ReachedHasNoBlock : Type 0
ReachedHasNoBlock = (Σ : Signature) (below : ℕ → ℕ → Bool) (ps : List Pattern) (goal : Case) → AreTypedItems Σ [] goal.items → (D : Case) → Reached Σ [] (IsOpen Σ) below ps goal D → HasNoBlockVariable D.items

-- A typed instance of a typed case without block variables is a typed case, and its local context is typed.
abbrev pub InstanceIsTypedCase : Type 0
InstanceIsTypedCase = (Σ : Signature) → IsSignature Σ → (W : List Block) → AreTypedBlocks Σ W → (C D : Case) → IsTypedCase Σ W C → HasTypedLocal Σ C → HasNoBlockVariable C.items → IsInstanceOfGoal Σ W C D → IsTypedCase Σ W D × HasTypedLocal Σ D

-- A candidate is one of the free variables of the case, and has a type.
abbrev pub CandidateIsVariable : Type 0
CandidateIsVariable = (C : Case) (p : Pattern) (x : ℕ) → Member x (case_candidates C p) → (free_among C.items x ≡ true) × ((X : LfType) × TypeAt (items_context C.items) x X)

-- A case that the strategy reaches from a typed goal in the empty world, and that unification never solves with any pattern of the list, each a
-- constant's, is missing. So is each one that it reaches where the list is empty.
abbrev pub NeverIsMissing : Type 0
NeverIsMissing = (Σ : Signature) → IsSignature Σ → (below : ℕ → ℕ → Bool) (ps : List Pattern) (goal : Case) → IsTypedCase Σ [] goal → HasTypedLocal Σ goal → ((p : Pattern) → Member p ps → IsTypedPattern Σ p × IsConstants p.origin × IsTypedBeside Σ [] goal p) → (D : Case) → Reached Σ [] (IsOpen Σ) below ps goal D → (K : Kind) → Σ.kinds D.family ≡ Some K → ((p : Pattern) → Member p ps → Never Σ [] (meet_store D p K)) → CoverIs Σ [] below ps goal (missing D)

-- The items after a split of a variable by a head have families of S alone, where those of the case have: S is self-contained, and there is no
-- new block variable.
abbrev pub SplitItemsKeepFamilies : Type 0
SplitItemsKeepFamilies = (Σ : Signature) (W : List Block) (S : ℕ → Bool) → SelfContained Σ W S → (below : ℕ → ℕ → Bool) (I : List Item) → AllFamiliesIn S (items_context I) → (x : ℕ) (X : LfType) → TypeAt (items_context I) x X → (J : List Item) (n : ℕ) (h : Head) (A : LfType) → SplitHead Σ W I X J n h A → HasNoBlockVariable J → AllFamiliesIn S (items_context (split_items below X J n A))

-- So have those of the case that is read off a solved store, where the metavariables that were handed in have: what solving adds has types of
-- families that were there.
abbrev pub SolvedKeepsFamilies : Type 0
SolvedKeepsFamilies = (Σ : Signature) (S : ℕ → Bool) (before after : Store) → ((m : ℕ) (A : LfType) → before.metavariables m ≡ Some A → FamiliesIn S A) → (s : Solved Σ before after) (C : Case) (k : ℕ) → AllFamiliesIn S (items_context (solved_case C k after s.well_formed.order).items)

-- A split at each head of which unification answers is one by unification beside each self-contained set that holds the families in the types of the
-- case's items; and it holds those of each of its cases.
abbrev pub SolvedSplitIsUnified : Type 0
SolvedSplitIsUnified = (Σ : Signature) → IsSignature Σ → (W : List Block) → AreTypedBlocks Σ W → (below : ℕ → ℕ → Bool) (S : ℕ → Bool) → SelfContained Σ W S → (C : Case) → IsTypedCase Σ W C → AllFamiliesIn S (items_context C.items) → (x : ℕ) (Cs : List Case) → IsSolvedSplit Σ W below C x Cs → IsUnifiedSplit Σ W S below C x Cs × ((D : Case) → Member D Cs → AllFamiliesIn S (items_context D.items))

-- So its cases are those of the variable beside such sets. Where `below` is the test of the declarations, `AnsweredSplitIsAnswer` asks nothing of the
-- types of heads, and of the case's items that they quantify only over what is below.
abbrev pub SolvedSplitIsAnswer : Type 0
SolvedSplitIsAnswer = (Σ : Signature) → IsSignature Σ → (W : List Block) → AreTypedBlocks Σ W → (below : ℕ → ℕ → Bool) → IsSubordination Σ W below → (C : Case) → IsTypedCase Σ W C → (x : ℕ) (Cs : List Case) → IsSolvedSplit Σ W below C x Cs → AreCasesBesideAll Σ W below C x Cs

-- A run of such splits that ends at instances of patterns covers its goal, where this is typed and each set beside which it is to be covered holds
-- the families in the types of its items. Where `below` is that test, `AnsweredRunCovers` asks nothing of what comes along the run, and of the goal's
-- items that they quantify only over what is below.
abbrev pub SolvedRunCovers : Type 0
SolvedRunCovers = (Σ : Signature) → IsSignature Σ → (W : List Block) → AreTypedBlocks Σ W → (below : ℕ → ℕ → Bool) → IsSubordination Σ W below → (ps : List Pattern) (goal : Case) → HasOneBlockVariable goal.items → IsTypedCase Σ W goal → ((S : ℕ → Bool) → IsBeside Σ W S goal → AllFamiliesIn S (items_context goal.items)) → Ends (IsInstanceLeaf Σ W ps) (SolvesEachHead Σ W below) goal → CoverIs Σ W below ps goal covered

-- The goal of inputs is such a one. Where `below` is that test, this follows from `AnsweredRunCoversInputs`, whose run is asked less.
abbrev pub SolvedRunCoversInputs : Type 0
SolvedRunCoversInputs = (Σ : Signature) → IsSignature Σ → (W : List Block) → AreTypedBlocks Σ W → (below : ℕ → ℕ → Bool) → IsSubordination Σ W below → (ps : List Pattern) (a : ℕ) (m : List Bool) (K : Kind) → Σ.kinds a ≡ Some K → MentionChosenOnly nothing m K → Ends (IsInstanceLeaf Σ W ps) (SolvesEachHead Σ W below) (input_goal a m K) → CoverIs Σ W below ps (input_goal a m K) covered
