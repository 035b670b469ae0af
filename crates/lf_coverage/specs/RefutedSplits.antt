-- What unification by steps finds for the heads of a split holds in each extension of the signature, whatever families the other items have. So a
-- split is complete beside each set that holds the families of the variable's type.
use Rattle.std.specs.Prelude.{◌≡◌, ℕ, ◌+◌, List, [], Bool, Some}
use Rattle.lf.specs.Syntax.{Head, LfType, Kind}
use Rattle.lf.specs.Typing.{Signature, TypeAt, IsSignature}
use Rattle.lf.specs.Variables.{target, FamiliesIn}
use Rattle.lf.specs.Subordination.{Block, Member, AreTypedBlocks, IsBelowTest}
use Rattle.lf.specs.Extension.{Extends}
use Rattle.lf_unification.specs.Solving.{Never, Solved}
use Rattle.lf_unification.specs.Steps.{CanRefute, Run}
use Rattle.lf_unification.specs.Unifiers.{Store}
use Rattle.lf_cases.specs.Case.{Item, Case, items_context}
use Rattle.lf_cases.specs.Pattern.{Pattern}
use Rattle.lf_cases.specs.Reached.{arguments_count, SplitHead}
use Rattle.lf_cases.specs.Split.{Ends, HasNoBlockVariable, HasOneBlockVariable}
use Rattle.lf_coverage.specs.Calls.{CoverIs, IsBeside, SplitIs, cases, covered}
use Rattle.lf_coverage.specs.HeadOrder.{Offer}
use Rattle.lf_coverage.specs.Heads.{IsTypedCase, GivesCase, GivesNone}
use Rattle.lf_coverage.specs.Leaf.{IsInstanceLeaf}
use Rattle.lf_coverage.specs.SplitStore.{split_store, solved_case}
use Rattle.lf_coverage.specs.Subordinate.{AllQuantifiersAreBelow}
use Rattle.lf_coverage.specs.UnifiedSplit.{IsAnsweredSplit}

-- A split of the free variable x of C at each head of which unification answers, and steps refute each store that is never solved.
pub record IsRefutedSplit (Σ : Signature) (W : List Block) (below : ℕ → ℕ → Bool) (C : Case) (x : ℕ) (Cs : List Case) : Type 0 where
  pub answered : IsAnsweredSplit Σ W below C x Cs
  pub refuted : (h : Offer) → Member h answered.offers → (K : Kind) → Σ.kinds (target answered.type) ≡ Some K → Never Σ [] (split_store below x answered.type h.items h.moved h.head h.type K) → CanRefute Σ (split_store below x answered.type h.items h.moved h.head h.type K)

-- A case is split so at one of its variables, whose type has its families in each set beside which the goal is to be covered.
abbrev pub RefutesEachHead : Signature → List Block → (ℕ → ℕ → Bool) → Case → Case → List Case → Type 0
RefutesEachHead Σ W below goal C Cs = (x : ℕ) × (sp : IsRefutedSplit Σ W below C x Cs) × ((S : ℕ → Bool) → IsBeside Σ W S goal → FamiliesIn S sp.answered.type)

-- Steps stay steps in each extension of the signature.
abbrev pub RunInExtension : Type 0
RunInExtension = (S : ℕ → Bool) (Σ Σ' : Signature) → Extends S Σ Σ' → (before after : Store) → Run Σ before after → Run Σ' before after

-- What is refuted gives no case, beside whatever set: in no extension over it, and no context of W beside it, anything makes the variable that head.
abbrev pub RefutedGivesNone : Type 0
RefutedGivesNone = (Σ : Signature) → IsSignature Σ → (W : List Block) → AreTypedBlocks Σ W → (below : ℕ → ℕ → Bool) (S : ℕ → Bool) (C : Case) → IsTypedCase Σ W C → (x : ℕ) (X : LfType) → TypeAt (items_context C.items) x X → (J : List Item) (n : ℕ) (h : Head) (A : LfType) → SplitHead Σ W C.items X J n h A → HasNoBlockVariable J → (K : Kind) → Σ.kinds (target X) ≡ Some K → CanRefute Σ (split_store below x X J n h A K) → GivesNone Σ W S below x X J n h A

-- And what is solved gives a case, beside whatever set.
abbrev pub SolvedGivesCaseBeside : Type 0
SolvedGivesCaseBeside = (Σ : Signature) → IsSignature Σ → (W : List Block) → AreTypedBlocks Σ W → (below : ℕ → ℕ → Bool) (S : ℕ → Bool) (C : Case) → IsTypedCase Σ W C → (x : ℕ) (X : LfType) → TypeAt (items_context C.items) x X → (J : List Item) (n : ℕ) (h : Head) (A : LfType) → SplitHead Σ W C.items X J n h A → HasNoBlockVariable J → (K : Kind) → Σ.kinds (target X) ≡ Some K → (after : Store) (s : Solved Σ (split_store below x X J n h A K) after) → GivesCase Σ W S below C x X J n h A (solved_case C (n + arguments_count A) after s.well_formed.order)

-- So the cases of such a split are those of the variable, beside each self-contained set that holds the families of its type.
abbrev pub RefutedSplitIsAnswer : Type 0
RefutedSplitIsAnswer = (Σ : Signature) → IsSignature Σ → (W : List Block) → AreTypedBlocks Σ W → (below : ℕ → ℕ → Bool) → ((f : ℕ) → IsBelowTest Σ W (below f) f) → (C : Case) → IsTypedCase Σ W C → AllQuantifiersAreBelow below (items_context C.items) → (x : ℕ) (Cs : List Case) → IsRefutedSplit Σ W below C x Cs → SplitIs Σ W below C x (cases Cs)

-- A run of such splits that ends at instances of patterns covers its goal. Of families it is asked only that those in the type of each variable that
-- is split are in each set beside which the goal is to be covered.
abbrev pub RefutedRunCovers : Type 0
RefutedRunCovers = (Σ : Signature) → IsSignature Σ → (W : List Block) → AreTypedBlocks Σ W → (below : ℕ → ℕ → Bool) → ((f : ℕ) → IsBelowTest Σ W (below f) f) → (ps : List Pattern) (goal : Case) → HasOneBlockVariable goal.items → IsTypedCase Σ W goal → AllQuantifiersAreBelow below (items_context goal.items) → Ends (IsInstanceLeaf Σ W ps) (RefutesEachHead Σ W below goal) goal → CoverIs Σ W below ps goal covered
