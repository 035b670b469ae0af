-- What a run by unification keeps of subordination, and what it then covers. Nothing is asked of the families in types along
-- the run; of those of the goal's items it is, but for the goal of inputs.
use Rattle.std.specs.Prelude.{◌≡◌, ℕ, zero, List, ◌∷◌, Bool, true, Some}
use Rattle.lf.specs.Syntax.{Head, LfType, Kind}
use Rattle.lf.specs.Typing.{Signature, TypeAt, IsType, IsSignature}
use Rattle.lf.specs.Subordination.{Block, Member, AreTypedBlocks, IsBelowTest}
use Rattle.lf.specs.Variables.{target, nothing}
use Rattle.lf_unification.specs.Search.{occurs_type}
use Rattle.lf_unification.specs.Solving.{Solved}
use Rattle.lf_unification.specs.Unifiers.{Store}
use Rattle.lf_checks.specs.Clause.{IsSubgoal, constant_clause}
use Rattle.lf_checks.specs.Marks.{Mark, MentionChosenOnly}
use Rattle.lf_cases.specs.Case.{Item, Case, items_context, input_goal}
use Rattle.lf_cases.specs.Missing.{AreTypedItems}
use Rattle.lf_cases.specs.OutputGoal.{output_goal}
use Rattle.lf_cases.specs.Pattern.{Pattern, of_constant}
use Rattle.lf_cases.specs.Raised.{raise_by, raised_over}
use Rattle.lf_cases.specs.Reached.{SplitHead, split_items}
use Rattle.lf_cases.specs.Split.{Ends, HasNoBlockVariable, HasOneBlockVariable}
use Rattle.lf_coverage.specs.Calls.{AreCasesBesideAll, CoverIs, IsBeside, covered}
use Rattle.lf_coverage.specs.Heads.{IsTypedCase}
use Rattle.lf_coverage.specs.Leaf.{IsInstanceLeaf}
use Rattle.lf_coverage.specs.SplitStore.{AllFamiliesIn, solved_case}
use Rattle.lf_coverage.specs.Subordinate.{QuantifiersAreBelow, AllQuantifiersAreBelow}
use Rattle.lf_coverage.specs.UnifiedSplit.{IsAnsweredSplit, AnswersEachHead, IsSolvedSplit}

-- The cases that come from a goal by splits: itself, and each case of a split of one that does.
pub data ComesBy (Splits : Case → List Case → Type 0) (goal : Case) : Case → Type 0 where
  comes_itself : ComesBy Splits goal goal
  comes_by_split : {C D : Case} (Cs : List Case) → ComesBy Splits goal C → Splits C Cs → Member D Cs → ComesBy Splits goal D

-- By a test of subordination a variable that occurs in a type is of a family below its own, where this type and those of the context quantify only
-- over what is below.
abbrev pub OccurringIsBelow : Type 0
OccurringIsBelow = (Σ : Signature) → IsSignature Σ → (W : List Block) → AreTypedBlocks Σ W → (below : ℕ → ℕ → Bool) → ((f : ℕ) → IsBelowTest Σ W (below f) f) → (A : LfType) (G : List LfType) (B : LfType) → AllQuantifiersAreBelow below (A ∷ G) → QuantifiersAreBelow below B → IsType Σ (A ∷ G) B → occurs_type zero B ≡ true → below (target B) (target A) ≡ true

-- So a type that is raised over variables of a local context, those of families below its own and those that occur, quantifies only over what is below.
abbrev pub RaisedQuantifiesBelow : Type 0
RaisedQuantifiesBelow = (Σ : Signature) → IsSignature Σ → (W : List Block) → AreTypedBlocks Σ W → (below : ℕ → ℕ → Bool) → ((f : ℕ) → IsBelowTest Σ W (below f) f) → (D G : List LfType) (B : LfType) → AllQuantifiersAreBelow below D → AllQuantifiersAreBelow below G → QuantifiersAreBelow below B → IsType Σ G (raise_by (raised_over (below (target B)) D B) D B) → QuantifiersAreBelow below (raise_by (raised_over (below (target B)) D B) D B)

-- So the items after a split by a head do, where those of the case do.
abbrev pub SplitItemsQuantifyBelow : Type 0
SplitItemsQuantifyBelow = (Σ : Signature) → IsSignature Σ → (W : List Block) → AreTypedBlocks Σ W → (below : ℕ → ℕ → Bool) → ((f : ℕ) → IsBelowTest Σ W (below f) f) → (I : List Item) → AreTypedItems Σ W I → AllQuantifiersAreBelow below (items_context I) → (x : ℕ) (X : LfType) → TypeAt (items_context I) x X → (J : List Item) (n : ℕ) (h : Head) (A : LfType) → SplitHead Σ W I X J n h A → HasNoBlockVariable J → AllQuantifiersAreBelow below (items_context (split_items below X J n A))

-- And so do those of the goal of a subgoal's outputs in the clause of a constant, where they are typed.
-- The sharper `OutputGoalQuantifiesBelow` proves them typed.
abbrev pub OutputsQuantifyBelow : Type 0
OutputsQuantifyBelow = (Σ : Signature) → IsSignature Σ → (W : List Block) → AreTypedBlocks Σ W → (below : ℕ → ℕ → Bool) → ((f : ℕ) → IsBelowTest Σ W (below f) f) → (k : ℕ) (U : LfType) → Σ.types k ≡ Some U → (m : ℕ → List Mark) (V : ℕ → Bool) (i : ℕ) (A : LfType) → IsSubgoal (constant_clause U) i A → (K : Kind) → Σ.kinds (target A) ≡ Some K → AreTypedItems Σ W (output_goal below m (of_constant U) V A K).items → AllQuantifiersAreBelow below (items_context (output_goal below m (of_constant U) V A K).items)

-- So do those of the case that is read off a solved store, where the types of the metavariables that were handed in do: what solving adds has such a
-- type with bindings put in, or with a quantifier left out.
abbrev pub SolvedQuantifiesBelow : Type 0
SolvedQuantifiesBelow = (Σ : Signature) (below : ℕ → ℕ → Bool) (before after : Store) → ((m : ℕ) (A : LfType) → before.metavariables m ≡ Some A → QuantifiersAreBelow below A) → (s : Solved Σ before after) (C : Case) (k : ℕ) → AllQuantifiersAreBelow below (items_context (solved_case C k after s.well_formed.order).items)

-- So where the items of a case do, the families in the types of what the variable and the heads take are below their own, in each split at each head
-- of which unification answers; and the items of its cases do too.
abbrev pub AnsweredSplitIsSolved : Type 0
AnsweredSplitIsSolved = (Σ : Signature) → IsSignature Σ → (W : List Block) → AreTypedBlocks Σ W → (below : ℕ → ℕ → Bool) → ((f : ℕ) → IsBelowTest Σ W (below f) f) → (C : Case) → IsTypedCase Σ W C → AllQuantifiersAreBelow below (items_context C.items) → (x : ℕ) (Cs : List Case) → IsAnsweredSplit Σ W below C x Cs → IsSolvedSplit Σ W below C x Cs × ((D : Case) → Member D Cs → AllQuantifiersAreBelow below (items_context D.items))

-- Its cases are those of the variable, beside each set that holds the families of all items.
abbrev pub AnsweredSplitIsAnswer : Type 0
AnsweredSplitIsAnswer = (Σ : Signature) → IsSignature Σ → (W : List Block) → AreTypedBlocks Σ W → (below : ℕ → ℕ → Bool) → ((f : ℕ) → IsBelowTest Σ W (below f) f) → (C : Case) → IsTypedCase Σ W C → AllQuantifiersAreBelow below (items_context C.items) → (x : ℕ) (Cs : List Case) → IsAnsweredSplit Σ W below C x Cs → AreCasesBesideAll Σ W below C x Cs

-- The items of each case that comes by such splits from a typed goal whose items quantify only over what is below do so too, and the case is typed.
abbrev pub RunQuantifiesBelow : Type 0
RunQuantifiesBelow = (Σ : Signature) → IsSignature Σ → (W : List Block) → AreTypedBlocks Σ W → (below : ℕ → ℕ → Bool) → ((f : ℕ) → IsBelowTest Σ W (below f) f) → (goal : Case) → IsTypedCase Σ W goal → AllQuantifiersAreBelow below (items_context goal.items) → (D : Case) → ComesBy (AnswersEachHead Σ W below) goal D → IsTypedCase Σ W D × AllQuantifiersAreBelow below (items_context D.items)

-- The goal of inputs is such a one.
abbrev pub InputRunQuantifiesBelow : Type 0
InputRunQuantifiesBelow = (Σ : Signature) → IsSignature Σ → (W : List Block) → AreTypedBlocks Σ W → (below : ℕ → ℕ → Bool) → ((f : ℕ) → IsBelowTest Σ W (below f) f) → (a : ℕ) (m : List Bool) (K : Kind) → Σ.kinds a ≡ Some K → MentionChosenOnly nothing m K → (D : Case) → ComesBy (AnswersEachHead Σ W below) (input_goal a m K) D → IsTypedCase Σ W D × AllQuantifiersAreBelow below (items_context D.items)

-- A run of such splits that ends at instances of patterns covers its goal, where this is typed, its items quantify only over what is below, and each
-- set beside which it is to be covered holds the families in the types of its items.
abbrev pub AnsweredRunCovers : Type 0
AnsweredRunCovers = (Σ : Signature) → IsSignature Σ → (W : List Block) → AreTypedBlocks Σ W → (below : ℕ → ℕ → Bool) → ((f : ℕ) → IsBelowTest Σ W (below f) f) → (ps : List Pattern) (goal : Case) → HasOneBlockVariable goal.items → IsTypedCase Σ W goal → AllQuantifiersAreBelow below (items_context goal.items) → ((S : ℕ → Bool) → IsBeside Σ W S goal → AllFamiliesIn S (items_context goal.items)) → Ends (IsInstanceLeaf Σ W ps) (AnswersEachHead Σ W below) goal → CoverIs Σ W below ps goal covered

-- The goal of inputs is such a one: nothing at all is asked of the families in types.
abbrev pub AnsweredRunCoversInputs : Type 0
AnsweredRunCoversInputs = (Σ : Signature) → IsSignature Σ → (W : List Block) → AreTypedBlocks Σ W → (below : ℕ → ℕ → Bool) → ((f : ℕ) → IsBelowTest Σ W (below f) f) → (ps : List Pattern) (a : ℕ) (m : List Bool) (K : Kind) → Σ.kinds a ≡ Some K → MentionChosenOnly nothing m K → Ends (IsInstanceLeaf Σ W ps) (AnswersEachHead Σ W below) (input_goal a m K) → CoverIs Σ W below ps (input_goal a m K) covered
