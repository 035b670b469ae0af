-- Laws: the numbers of metavariables don't matter to solving, nor to what coverage makes of it.
use Rattle.std.specs.Prelude.{◌≡◌, ℕ, ◌+◌, ◌<◌, ◌≤◌, ◌⊎◌, List, [], Bool, Some, None}
use Rattle.lf.specs.Depth.{depth_limit}
use Rattle.lf.specs.Subordination.{Block, AreTypedBlocks, Member}
use Rattle.lf.specs.Syntax.{Head, LfType, Kind}
use Rattle.lf.specs.Typing.{Signature, IsSignature, TypeAt}
use Rattle.lf.specs.Variables.{target}
use Rattle.lf_unification.specs.DeepEquations.{AreDeep}
use Rattle.lf_unification.specs.Solving.{IsWellFormed, Left, LeftOver, Never, Solved}
use Rattle.lf_unification.specs.Steps.{Step}
use Rattle.lf_unification.specs.Unifiers.{Equation, Store}
use Rattle.lf_cases.specs.Case.{Item, Case, items_context}
use Rattle.lf_cases.specs.Missing.{CommonInstance}
use Rattle.lf_cases.specs.Pattern.{Pattern}
use Rattle.lf_cases.specs.Reached.{arguments_count, GivesNoCase, IsApart, IsSplitBy, SplitHead}
use Rattle.lf_cases.specs.Split.{HasNoBlockVariable}
use Rattle.lf_coverage.specs.HeadOrder.{Offer}
use Rattle.lf_coverage.specs.Heads.{IsTypedCase}
use Rattle.lf_coverage.specs.Leaf.{IsTypedPattern}
use Rattle.lf_coverage.specs.MeetStore.{IsConstants, IsOpen, meet_store}
use Rattle.lf_coverage.specs.Outside.{SplitLeaves}
use Rattle.lf_coverage.specs.Renumbering.{AgreeOn, HasNumbers, Renumbering, renumbered_equation, renumbered_order, renumbered_store, undone}
pub use Rattle.lf_coverage.specs.SplitStore.{solved_case_at}
use Rattle.lf_coverage.specs.SplitStore.{split_store}
use Rattle.lf_coverage.specs.StoreSkeletons.{StoreHasSkeletons}
use Rattle.lf_coverage.specs.TooDeep.{SplitIsTooDeep}
use Rattle.lf_coverage.specs.TypedCase.{IsTypedBeside}
use Rattle.lf_coverage.specs.TypedLocal.{HasTypedLocal}
use Rattle.lf_coverage.specs.UnifiedSplit.{UnifierFinds}

-- Different numbers for finitely many metavariables are given by a renumbering of all.
abbrev pub NumbersExtend : Type 0
NumbersExtend = (g : ℕ → ℕ) (n : ℕ) → ((i j : ℕ) → i < n → j < n → g i ≡ g j → i ≡ j) → (π : Renumbering) × ((m : ℕ) → m < n → π.to m ≡ g m)

-- A store that is ready, with different numbers for its metavariables, is it under a renumbering. So the laws below speak of each store that has the
-- metavariables of a given one in other numbers, whatever they are.
abbrev pub NumbersAreRenumbering : Type 0
NumbersAreRenumbering = (Σ : Signature) (s : Store) → IsWellFormed Σ s → StoreHasSkeletons Σ s → (n : ℕ) → ((m : ℕ) → n ≤ m → s.metavariables m ≡ None) → (g : ℕ → ℕ) → ((i j : ℕ) → i < n → j < n → g i ≡ g j → i ≡ j) → (t : Store) → HasNumbers g s t → (π : Renumbering) × ((m : ℕ) → m < n → π.to m ≡ g m) × (t ≡ renumbered_store π s)

-- What is undone is as it was. So each of the laws below holds the other way round too.
abbrev pub UndoingReturns : Type 0
UndoingReturns = (π : Renumbering) (s : Store) → renumbered_store (undone π) (renumbered_store π s) ≡ s

-- A store that is ready to be solved is so under other numbers: it is well formed, and skeletons type what its equations stand in.
abbrev pub ReadyUnderNumbers : Type 0
ReadyUnderNumbers = (Σ : Signature) → IsSignature Σ → (π : Renumbering) (s : Store) → (IsWellFormed Σ s → IsWellFormed Σ (renumbered_store π s)) × (StoreHasSkeletons Σ s → StoreHasSkeletons Σ (renumbered_store π s))

-- A step of a store is one under other numbers, where the metavariables that were declared keep theirs. A new one may have to take another number:
-- in a store of metavariable 0 the numbers from 1 on are free; with 0 and 1 exchanged those from 2 on are, and not those from 0, the new number of 1.
abbrev pub StepUnderNumbers : Type 0
StepUnderNumbers = (Σ : Signature) → IsSignature Σ → (π : Renumbering) (s s' : Store) → Step Σ s s' → (ρ : Renumbering) × AgreeOn s.metavariables π ρ × Step Σ (renumbered_store π s) (renumbered_store ρ s')

-- What has no typed unifier has none under other numbers, and the other way round.
abbrev pub NeverUnderNumbers : Type 0
NeverUnderNumbers = (Σ : Signature) → IsSignature Σ → (π : Renumbering) (s : Store) → (Never Σ [] s → Never Σ [] (renumbered_store π s)) × (Never Σ [] (renumbered_store π s) → Never Σ [] s)

-- What is solved is solved under other numbers: the given metavariables have theirs, and the bindings and the order of dependency are the same but for
-- the numbers.
abbrev pub SolvedUnderNumbers : Type 0
SolvedUnderNumbers = (Σ : Signature) → IsSignature Σ → (π : Renumbering) (before after : Store) → IsWellFormed Σ before → (s : Solved Σ before after) → (ρ : Renumbering) × AgreeOn before.metavariables π ρ × (t : Solved Σ (renumbered_store π before) (renumbered_store ρ after)) × (t.well_formed.order ≡ renumbered_order ρ.to s.well_formed.order)

-- What leaves equations leaves the same ones.
abbrev pub LeftUnderNumbers : Type 0
LeftUnderNumbers = (Σ : Signature) → IsSignature Σ → (π : Renumbering) (before after : Store) → IsWellFormed Σ before → Left Σ before after → (ρ : Renumbering) × AgreeOn before.metavariables π ρ × Left Σ (renumbered_store π before) (renumbered_store ρ after)

-- What is deep is so under other numbers, and the other way round.
abbrev pub DeepUnderNumbers : Type 0
DeepUnderNumbers = (limit : ℕ) (Σ : Signature) → IsSignature Σ → (π : Renumbering) (s : Store) → (AreDeep limit Σ s → AreDeep limit Σ (renumbered_store π s)) × (AreDeep limit Σ (renumbered_store π s) → AreDeep limit Σ s)

-- So unification of a case may be done under any numbers of its metavariables.

-- What unification finds for a head under any numbers, it finds: none, or the case that is read off at these numbers. So the laws of a solved split hold
-- whatever the numbers are.
abbrev pub FoundUnderNumbers : Type 0
FoundUnderNumbers = (Σ : Signature) → IsSignature Σ → (W : List Block) → AreTypedBlocks Σ W → (below : ℕ → ℕ → Bool) (C : Case) → IsTypedCase Σ W C → HasTypedLocal Σ C → (x : ℕ) (X : LfType) → TypeAt (items_context C.items) x X → (h : Offer) → SplitHead Σ W C.items X h.items h.moved h.head h.type → HasNoBlockVariable h.items → (K : Kind) → Σ.kinds (target X) ≡ Some K → (π : Renumbering) →
    (Never Σ [] (renumbered_store π (split_store below x X h.items h.moved h.head h.type K)) → UnifierFinds Σ below C x X h K None)
    × ((after : Store) (s : Solved Σ (renumbered_store π (split_store below x X h.items h.moved h.head h.type K)) after) → UnifierFinds Σ below C x X h K (Some (solved_case_at C (λ i. π.to (i + (h.moved + arguments_count h.type))) after s.well_formed.order)))

-- What is never solved gives no case.
abbrev pub NeverGivesNoCaseUnderNumbers : Type 0
NeverGivesNoCaseUnderNumbers = (Σ : Signature) → IsSignature Σ → (W : List Block) → AreTypedBlocks Σ W → (below : ℕ → ℕ → Bool) (C : Case) → IsTypedCase Σ W C → (x : ℕ) (X : LfType) → TypeAt (items_context C.items) x X → (J : List Item) (n : ℕ) (h : Head) (A : LfType) → SplitHead Σ W C.items X J n h A → HasNoBlockVariable J → (K : Kind) (π : Renumbering) → Never Σ [] (renumbered_store π (split_store below x X J n h A K)) → GivesNoCase Σ W below x X J n h A

-- What is solved gives the case of the strategy's split.
abbrev pub SolvedIsSplitUnderNumbers : Type 0
SolvedIsSplitUnderNumbers = (Σ : Signature) → IsSignature Σ → (W : List Block) → AreTypedBlocks Σ W → (below : ℕ → ℕ → Bool) (C : Case) → IsTypedCase Σ W C → HasTypedLocal Σ C → (x : ℕ) (X : LfType) → TypeAt (items_context C.items) x X → (J : List Item) (n : ℕ) (h : Head) (A : LfType) → SplitHead Σ W C.items X J n h A → HasNoBlockVariable J → (K : Kind) → Σ.kinds (target X) ≡ Some K → (π : Renumbering) (after : Store) (s : Solved Σ (renumbered_store π (split_store below x X J n h A K)) after) → IsSplitBy Σ W below C x X J n h A (solved_case_at C (λ i. π.to (i + (n + arguments_count A))) after s.well_formed.order)

-- The equation that is shown of one that is left over is, in the theory's numbers, one at which the split stops.
abbrev pub LeftIsOutsideUnderNumbers : Type 0
LeftIsOutsideUnderNumbers = (Σ : Signature) → IsSignature Σ → (W : List Block) → AreTypedBlocks Σ W → (below : ℕ → ℕ → Bool) (C : Case) → IsTypedCase Σ W C → (x : ℕ) (X : LfType) → TypeAt (items_context C.items) x X → (J : List Item) (n : ℕ) (h : Head) (A : LfType) → SplitHead Σ W C.items X J n h A → HasNoBlockVariable J → (K : Kind) → Σ.kinds (target X) ≡ Some K → (π : Renumbering) (after : Store) → Left Σ (renumbered_store π (split_store below x X J n h A K)) after → (e : Equation) → Member e after.equations → (o : LeftOver (renumbered_store π (split_store below x X J n h A K)).metavariables after e) →
    (ρ : Renumbering) × AgreeOn (split_store below x X J n h A K).metavariables π ρ × (shown : Equation) × (o.shown ≡ renumbered_equation ρ.to shown) × SplitLeaves Σ W below C x shown

-- Where the equations for a head are deep, the split is too deep.
abbrev pub TooDeepUnderNumbers : Type 0
TooDeepUnderNumbers = (Σ : Signature) → IsSignature Σ → (W : List Block) (below : ℕ → ℕ → Bool) (C : Case) (x : ℕ) (X : LfType) → TypeAt (items_context C.items) x X → (J : List Item) (n : ℕ) (h : Head) (A : LfType) → SplitHead Σ W C.items X J n h A → HasNoBlockVariable J → (K : Kind) → Σ.kinds (target X) ≡ Some K → (π : Renumbering) → AreDeep depth_limit Σ (renumbered_store π (split_store below x X J n h A K)) → SplitIsTooDeep Σ W below C x

-- A case and a constant's clause that are never solved are apart.
abbrev pub NeverIsApartUnderNumbers : Type 0
NeverIsApartUnderNumbers = (Σ : Signature) → IsSignature Σ → (W : List Block) → AreTypedBlocks Σ W → (C : Case) → HasNoBlockVariable C.items → (p : Pattern) → IsTypedPattern Σ p → IsConstants p.origin → IsTypedBeside Σ W C p → (K : Kind) → Σ.kinds C.family ≡ Some K → (π : Renumbering) → Never Σ [] (renumbered_store π (meet_store C p K)) → IsApart Σ W (IsOpen Σ) C p

-- What is solved, they share.
abbrev pub SolvedSharesInstanceUnderNumbers : Type 0
SolvedSharesInstanceUnderNumbers = (Σ : Signature) → IsSignature Σ → (W : List Block) → AreTypedBlocks Σ W → (C : Case) → HasNoBlockVariable C.items → (p : Pattern) → IsTypedPattern Σ p → IsConstants p.origin → IsTypedBeside Σ W C p → (K : Kind) → Σ.kinds C.family ≡ Some K → (π : Renumbering) (after : Store) → Solved Σ (renumbered_store π (meet_store C p K)) after → CommonInstance Σ W C p

-- Where equations are left, or are deep, it is open whether they do.
abbrev pub OpenUnderNumbers : Type 0
OpenUnderNumbers = (Σ : Signature) → IsSignature Σ → (W : List Block) → AreTypedBlocks Σ W → (C : Case) → HasNoBlockVariable C.items → (p : Pattern) → IsTypedPattern Σ p → IsConstants p.origin → IsTypedBeside Σ W C p → (K : Kind) → Σ.kinds C.family ≡ Some K → (π : Renumbering) → AreDeep depth_limit Σ (renumbered_store π (meet_store C p K)) ⊎ ((after : Store) × Left Σ (renumbered_store π (meet_store C p K)) after) → IsOpen Σ C p
