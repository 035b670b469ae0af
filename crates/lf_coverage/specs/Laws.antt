-- The laws of splits by heads that the functions of this crate carry.
-- `NeverGivesNoCase`, `SolvedIsSplit`, `LeftIsOutside`, `NeverIsApartBeside` and `SolvedSharesInstance` hold under any numbers of the metavariables
-- too, as `RenumberingLaws` says, whose laws stand on these.
use Rattle.std.specs.Prelude.{◌≡◌, ℕ, ◌+◌, List, [], length, Bool, true, Some}
use Rattle.lf.specs.Syntax.{Head, LfType, Kind}
use Rattle.lf.specs.Typing.{Signature, TypeAt, IsSignature}
use Rattle.lf.specs.Subordination.{Block, Member, AreTypedBlocks, SelfContained}
use Rattle.lf.specs.Variables.{target, binders, nothing}
use Rattle.lf_unification.specs.Solving.{IsWellFormed, Left, Never, Solved}
use Rattle.lf_unification.specs.Outside.{Outside}
use Rattle.lf_unification.specs.Unifiers.{Equation, Store}
use Rattle.lf_checks.specs.Clause.{Clause, IsClause, IsSubgoal, scope}
use Rattle.lf_checks.specs.Below.{IsSubordination}
use Rattle.lf_checks.specs.Marks.{MentionChosenOnly}
use Rattle.lf_cases.specs.Case.{Item, Case, items_context, input_goal}
use Rattle.lf_cases.specs.Pattern.{Origin, Pattern, origin, head_pattern, subgoal_pattern, IsCoveredCase}
use Rattle.lf_cases.specs.Missing.{AreTypedItems, CommonInstance, IsInstanceOfGoal}
use Rattle.lf_cases.specs.Reached.{arguments_count, SplitHead, IsSplitBy, IsSplitCase, GivesNoCase, IsApart, Reached, split_items}
use Rattle.lf_cases.specs.Split.{IsSplit, IsInstanceCase, Ends, HasNoBlockVariable, HasOneBlockVariable}
use Rattle.lf_coverage.specs.Heads.{IsTypedCase, GivesCase, GivesNone, IsHeadSplit, SplitsByHeads}
use Rattle.lf_coverage.specs.TypedLocal.{HasTypedLocal}
use Rattle.lf_coverage.specs.TypedCase.{IsTypedBeside}
use Rattle.lf_coverage.specs.MeetStore.{IsConstants, IsOpen, meet_store}
use Rattle.lf_coverage.specs.Outside.{SplitLeaves}
use Rattle.lf_coverage.specs.SplitStore.{split_store, solved_case, AllFamiliesIn}
use Rattle.lf_coverage.specs.StoreSkeletons.{StoreHasSkeletons}
use Rattle.lf_coverage.specs.UnifiedSplit.{IsUnifiedSplit, SplitsByUnification}
use Rattle.lf_coverage.specs.Leaf.{IsTypedPattern, IsInstanceLeaf}

-- The heads of a split give all its cases, beside each self-contained set S that holds the families of the type that is split: what a case holds,
-- in each legal extension over S and each context of W beside S, one of the cases of a split by heads holds, and these are like it.
abbrev pub HeadSplitIsSplit : Type 0
HeadSplitIsSplit = (Σ : Signature) → IsSignature Σ → (W : List Block) → AreTypedBlocks Σ W → (below : ℕ → ℕ → Bool) → IsSubordination Σ W below → (S : ℕ → Bool) → SelfContained Σ W S → (C : Case) → IsTypedCase Σ W C → (x : ℕ) (Cs : List Case) → IsHeadSplit Σ W S below C x Cs → IsSplit Σ W S C Cs

-- Each case that a split by heads of a typed case gives is typed.
abbrev pub SplitCasesAreTyped : Type 0
SplitCasesAreTyped = (Σ : Signature) → IsSignature Σ → (W : List Block) (below : ℕ → ℕ → Bool) (S : ℕ → Bool) (C : Case) → IsTypedCase Σ W C → (x : ℕ) (Cs : List Case) → IsHeadSplit Σ W S below C x Cs → (D : Case) → Member D Cs → IsTypedCase Σ W D

-- A case that the strategy reaches by a split is a typed instance of the case that is split.
abbrev pub SplitCaseIsInstance : Type 0
SplitCaseIsInstance = (Σ : Signature) (W : List Block) (below : ℕ → ℕ → Bool) (C : Case) (x : ℕ) (D : Case) → IsSplitCase Σ W below C x D → IsInstanceOfGoal Σ W C D

-- A typed instance of a typed instance of a typed goal is one of the goal, where neither the goal nor the instance between has a block variable.
abbrev pub InstancesCompose : Type 0
InstancesCompose = (Σ : Signature) → IsSignature Σ → (W : List Block) → AreTypedBlocks Σ W → (goal C D : Case) → IsTypedCase Σ W goal → HasTypedLocal Σ goal → HasNoBlockVariable goal.items → HasNoBlockVariable C.items → IsInstanceOfGoal Σ W goal C → IsInstanceOfGoal Σ W C D → IsInstanceOfGoal Σ W goal D

-- So each case without block variables that the strategy reaches is a typed instance of the goal, where this is typed.
abbrev pub ReachedIsInstance : Type 0
ReachedIsInstance = (Σ : Signature) → IsSignature Σ → (W : List Block) → AreTypedBlocks Σ W → (below : ℕ → ℕ → Bool) (ps : List Pattern) (goal : Case) → IsTypedCase Σ W goal → HasTypedLocal Σ goal → (D : Case) → Reached Σ W (IsOpen Σ) below ps goal D → HasNoBlockVariable D.items → IsInstanceOfGoal Σ W goal D

-- The store of a case that is typed beside a typed pattern is well formed: metavariables have an order of dependency, and both sides of each
-- equation have its type, up to the store's own fillings.
abbrev pub MeetStoreIsReady : Type 0
MeetStoreIsReady = (Σ : Signature) → IsSignature Σ → (W : List Block) → AreTypedBlocks Σ W → (C : Case) (p : Pattern) → IsTypedPattern Σ p → IsTypedBeside Σ W C p → (K : Kind) → Σ.kinds C.family ≡ Some K → IsWellFormed Σ (meet_store C p K)

-- So is that of a variable of a typed case and a head for it; and the items after the split are typed.
abbrev pub SplitStoreIsReady : Type 0
SplitStoreIsReady = (Σ : Signature) → IsSignature Σ → (W : List Block) → AreTypedBlocks Σ W → (below : ℕ → ℕ → Bool) (C : Case) → IsTypedCase Σ W C → (x : ℕ) (X : LfType) → TypeAt (items_context C.items) x X → (J : List Item) (n : ℕ) (h : Head) (A : LfType) → SplitHead Σ W C.items X J n h A → (K : Kind) → Σ.kinds (target X) ≡ Some K → AreTypedItems Σ W (split_items below X J n A) × IsWellFormed Σ (split_store below x X J n h A K)

-- And skeletons type what the equations of both stores stand in, which solving needs too.
abbrev pub StoresHaveSkeletons : Type 0
StoresHaveSkeletons = (Σ : Signature) → IsSignature Σ → (W : List Block) → AreTypedBlocks Σ W → (C : Case) → ((p : Pattern) → IsTypedPattern Σ p → IsTypedBeside Σ W C p → (K : Kind) → Σ.kinds C.family ≡ Some K → StoreHasSkeletons Σ (meet_store C p K)) × ((below : ℕ → ℕ → Bool) → IsTypedCase Σ W C → (x : ℕ) (X : LfType) → TypeAt (items_context C.items) x X → (J : List Item) (n : ℕ) (h : Head) (A : LfType) → SplitHead Σ W C.items X J n h A → (K : Kind) → Σ.kinds (target X) ≡ Some K → StoreHasSkeletons Σ (split_store below x X J n h A K))

-- The goal of inputs is typed by itself, where the types of the chosen places mention chosen places only, also where its family has no clause.
abbrev pub InputGoalIsTypedCase : Type 0
InputGoalIsTypedCase = (Σ : Signature) → IsSignature Σ → (W : List Block) → AreTypedBlocks Σ W → (a : ℕ) (m : List Bool) (K : Kind) → Σ.kinds a ≡ Some K → MentionChosenOnly nothing m K → IsTypedCase Σ W (input_goal a m K) × HasTypedLocal Σ (input_goal a m K) × HasNoBlockVariable (input_goal a m K).items

-- And it is typed beside each head of its family.
abbrev pub InputGoalIsTyped : Type 0
InputGoalIsTyped = (Σ : Signature) → IsSignature Σ → (W : List Block) → AreTypedBlocks Σ W → (a : ℕ) (m : List Bool) (K : Kind) → Σ.kinds a ≡ Some K → MentionChosenOnly nothing m K → (c : Clause) (o : Origin c) → IsTypedPattern Σ (head_pattern c o) → target c.type ≡ a → IsTypedBeside Σ W (input_goal a m K) (head_pattern c o)

-- A typed instance of a case without block variables that is typed beside a pattern is typed beside it.
abbrev pub InstanceStaysTyped : Type 0
InstanceStaysTyped = (Σ : Signature) → IsSignature Σ → (W : List Block) → AreTypedBlocks Σ W → (C D : Case) (p : Pattern) → IsTypedPattern Σ p → IsTypedBeside Σ W C p → HasNoBlockVariable C.items → IsInstanceOfGoal Σ W C D → IsTypedBeside Σ W D p

-- So is each case that a split by heads gives.
abbrev pub SplitCasesStayTyped : Type 0
SplitCasesStayTyped = (Σ : Signature) → IsSignature Σ → (W : List Block) → AreTypedBlocks Σ W → (below : ℕ → ℕ → Bool) (S : ℕ → Bool) (C : Case) (p : Pattern) → IsTypedPattern Σ p → IsTypedBeside Σ W C p → HasNoBlockVariable C.items → (x : ℕ) (Cs : List Case) → IsHeadSplit Σ W S below C x Cs → (D : Case) → Member D Cs → IsTypedBeside Σ W D p

-- And each one without block variables that the strategy reaches.
abbrev pub ReachedStaysTyped : Type 0
ReachedStaysTyped = (Σ : Signature) → IsSignature Σ → (W : List Block) → AreTypedBlocks Σ W → (below : ℕ → ℕ → Bool) (ps : List Pattern) (goal : Case) (p : Pattern) → IsTypedPattern Σ p → IsTypedBeside Σ W goal p → (D : Case) → Reached Σ W (IsOpen Σ) below ps goal D → HasNoBlockVariable D.items → IsTypedBeside Σ W D p

-- A run of splits by heads that ends well covers its goal, where this is typed.
abbrev pub HeadSplitsCover : Type 0
HeadSplitsCover = (Σ : Signature) → IsSignature Σ → (W : List Block) → AreTypedBlocks Σ W → (below : ℕ → ℕ → Bool) → IsSubordination Σ W below → (S : ℕ → Bool) → SelfContained Σ W S → (ps : List Pattern) (C : Case) → HasOneBlockVariable C.items → IsTypedCase Σ W C → Ends (IsInstanceCase Σ W S ps) (SplitsByHeads Σ W S below) C → IsCoveredCase Σ W S ps C

-- Unification in a split where the items are free variables, over a self-contained set S that holds every family of them. What is never solved
-- gives no case: in each legal extension over S and each context of W beside S nothing makes the variable that head.
abbrev pub NeverGivesNone : Type 0
NeverGivesNone = (Σ : Signature) → IsSignature Σ → (W : List Block) → AreTypedBlocks Σ W → (below : ℕ → ℕ → Bool) (S : ℕ → Bool) → SelfContained Σ W S → (C : Case) → IsTypedCase Σ W C → (x : ℕ) (X : LfType) → TypeAt (items_context C.items) x X → (J : List Item) (n : ℕ) (h : Head) (A : LfType) → SplitHead Σ W C.items X J n h A → HasNoBlockVariable J → AllFamiliesIn S (items_context (split_items below X J n A)) → (K : Kind) → Never Σ [] (split_store below x X J n h A K) → GivesNone Σ W S below x X J n h A

-- And no typed instance over any typed items makes the variable that head. No set of families is asked for.
abbrev pub NeverGivesNoCase : Type 0
NeverGivesNoCase = (Σ : Signature) → IsSignature Σ → (W : List Block) → AreTypedBlocks Σ W → (below : ℕ → ℕ → Bool) (C : Case) → IsTypedCase Σ W C → (x : ℕ) (X : LfType) → TypeAt (items_context C.items) x X → (J : List Item) (n : ℕ) (h : Head) (A : LfType) → SplitHead Σ W C.items X J n h A → HasNoBlockVariable J → (K : Kind) → Never Σ [] (split_store below x X J n h A K) → GivesNoCase Σ W below x X J n h A

-- Unification of a case with a pattern of a constant's clause, where the items of the case are free variables and it has as many local variables as
-- the pattern. What is never solved, they don't share: they have no typed instance in common in which each variable of the clause has a value. This and the next law are steps to the one after.
abbrev pub NeverSharesAll : Type 0
NeverSharesAll = (Σ : Signature) → IsSignature Σ → (W : List Block) → AreTypedBlocks Σ W → (C : Case) → IsTypedCase Σ W C → HasNoBlockVariable C.items → (p : Pattern) → IsTypedPattern Σ p → IsConstants p.origin → length C.local ≡ length (binders [] p.type) → (K : Kind) → Never Σ [] (meet_store C p K) → (s : CommonInstance Σ W C p) → ((i : ℕ) (A : LfType) → TypeAt (scope p.clause) i A → s.used i ≡ true) → ⊥

-- Where nothing is given, as in each goal of inputs, they share no typed instance at all, whatever it gives values: the pattern is passed over.
abbrev pub NeverIsApart : Type 0
NeverIsApart = (Σ : Signature) → IsSignature Σ → (W : List Block) → AreTypedBlocks Σ W → (C : Case) → IsTypedCase Σ W C → HasNoBlockVariable C.items → (p : Pattern) → IsTypedPattern Σ p → IsConstants p.origin → length C.local ≡ length (binders [] p.type) → C.given ≡ [] → (K : Kind) → Never Σ [] (meet_store C p K) → IsApart Σ W (IsOpen Σ) C p

-- So it is wherever the case is typed beside the pattern, also where terms are given.
abbrev pub NeverIsApartBeside : Type 0
NeverIsApartBeside = (Σ : Signature) → IsSignature Σ → (W : List Block) → AreTypedBlocks Σ W → (C : Case) → HasNoBlockVariable C.items → (p : Pattern) → IsTypedPattern Σ p → IsConstants p.origin → IsTypedBeside Σ W C p → (K : Kind) → Σ.kinds C.family ≡ Some K → Never Σ [] (meet_store C p K) → IsApart Σ W (IsOpen Σ) C p

-- What is solved, they share: a typed instance in common.
abbrev pub SolvedSharesInstance : Type 0
SolvedSharesInstance = (Σ : Signature) → IsSignature Σ → (W : List Block) → AreTypedBlocks Σ W → (C : Case) → HasNoBlockVariable C.items → (p : Pattern) → IsTypedPattern Σ p → IsConstants p.origin → IsTypedBeside Σ W C p → (K : Kind) → Σ.kinds C.family ≡ Some K → (after : Store) → Solved Σ (meet_store C p K) after → CommonInstance Σ W C p

-- What is solved gives a case that has each such instance: the one whose items are the metavariables that stay free.
abbrev pub SolvedGivesCase : Type 0
SolvedGivesCase = (Σ : Signature) → IsSignature Σ → (W : List Block) → AreTypedBlocks Σ W → (below : ℕ → ℕ → Bool) (S : ℕ → Bool) → SelfContained Σ W S → (C : Case) → IsTypedCase Σ W C → (x : ℕ) (X : LfType) → TypeAt (items_context C.items) x X → (J : List Item) (n : ℕ) (h : Head) (A : LfType) → SplitHead Σ W C.items X J n h A → HasNoBlockVariable J → AllFamiliesIn S (items_context (split_items below X J n A)) → (K : Kind) (after : Store) (s : Solved Σ (split_store below x X J n h A K) after) → GivesCase Σ W S below C x X J n h A (solved_case C (n + arguments_count A) after s.well_formed.order)

-- And it is the case that the strategy's split gives by this head: a most general typed instance makes the variable that head. No set of families is
-- asked for.
abbrev pub SolvedIsSplit : Type 0
SolvedIsSplit = (Σ : Signature) → IsSignature Σ → (W : List Block) → AreTypedBlocks Σ W → (below : ℕ → ℕ → Bool) (C : Case) → IsTypedCase Σ W C → (x : ℕ) (X : LfType) → TypeAt (items_context C.items) x X → (J : List Item) (n : ℕ) (h : Head) (A : LfType) → SplitHead Σ W C.items X J n h A → HasNoBlockVariable J → (K : Kind) (after : Store) (s : Solved Σ (split_store below x X J n h A K) after) → IsSplitBy Σ W below C x X J n h A (solved_case C (n + arguments_count A) after s.well_formed.order)

-- What it leaves over is outside the pattern fragment: each equation, with the bindings put in, is one at which the split stops.
abbrev pub LeftIsOutside : Type 0
LeftIsOutside = (Σ : Signature) (W : List Block) (below : ℕ → ℕ → Bool) (C : Case) (x : ℕ) (X : LfType) → TypeAt (items_context C.items) x X → (J : List Item) (n : ℕ) (h : Head) (A : LfType) → SplitHead Σ W C.items X J n h A → HasNoBlockVariable J → (K : Kind) → Σ.kinds (target X) ≡ Some K → (after : Store) → Left Σ (split_store below x X J n h A K) after → (e : Equation) → Member e after.equations → (shown : Equation) × Outside after.metavariables after.bindings shown × SplitLeaves Σ W below C x shown

-- So a split on which unification answers at each head is a split by heads.
abbrev pub UnifiedSplitIsHeadSplit : Type 0
UnifiedSplitIsHeadSplit = (Σ : Signature) → IsSignature Σ → (W : List Block) → AreTypedBlocks Σ W → (below : ℕ → ℕ → Bool) (S : ℕ → Bool) → SelfContained Σ W S → (C : Case) → IsTypedCase Σ W C → (x : ℕ) (Cs : List Case) → IsUnifiedSplit Σ W S below C x Cs → IsHeadSplit Σ W S below C x Cs

-- A leaf of a run by its terms: what a typed case holds that is an instance of a typed pattern, this covers, in each legal extension over S and
-- each context of W beside S.
abbrev pub LeafIsInstanceCase : Type 0
LeafIsInstanceCase = (Σ : Signature) → IsSignature Σ → (W : List Block) → AreTypedBlocks Σ W → (S : ℕ → Bool) (ps : List Pattern) (C : Case) → IsInstanceLeaf Σ W ps C → IsInstanceCase Σ W S ps C

-- So a run of splits by unification with such leaves covers its goal, where this is typed.
abbrev pub LeavesCover : Type 0
LeavesCover = (Σ : Signature) → IsSignature Σ → (W : List Block) → AreTypedBlocks Σ W → (below : ℕ → ℕ → Bool) → IsSubordination Σ W below → (S : ℕ → Bool) → SelfContained Σ W S → (ps : List Pattern) (C : Case) → HasOneBlockVariable C.items → IsTypedCase Σ W C → Ends (IsInstanceLeaf Σ W ps) (SplitsByUnification Σ W S below) C → IsCoveredCase Σ W S ps C

-- The head of a clause is a typed pattern, and so is each subgoal.
abbrev pub HeadIsTypedPattern : Type 0
HeadIsTypedPattern = (Σ : Signature) → IsSignature Σ → (W : List Block) → AreTypedBlocks Σ W → (c : Clause) (i : IsClause Σ W c) → IsTypedPattern Σ (head_pattern c (origin i))

abbrev pub SubgoalIsTypedPattern : Type 0
SubgoalIsTypedPattern = (Σ : Signature) → IsSignature Σ → (W : List Block) → AreTypedBlocks Σ W → (c : Clause) (d : IsClause Σ W c) (i : ℕ) (A : LfType) → IsSubgoal c i A → IsTypedPattern Σ (subgoal_pattern c (origin d) A)
