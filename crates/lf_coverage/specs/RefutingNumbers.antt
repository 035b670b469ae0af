-- Steps refute a store whatever numbers its metavariables have. So a split is one at each head of which unification solves or steps refute, where that
-- is answered for the stores of its heads, each in numbers of its own.
use Rattle.std.specs.Prelude.{◌≡◌, ℕ, ◌+◌, List, Bool, Option, Some, None}
use Rattle.lf.specs.Subordination.{Block, Member, AreTypedBlocks, IsBelowTest}
use Rattle.lf.specs.Syntax.{Head, LfType, Kind}
use Rattle.lf.specs.Typing.{Signature, IsSignature, TypeAt}
use Rattle.lf.specs.Variables.{target}
use Rattle.lf_unification.specs.Solving.{Solved}
use Rattle.lf_unification.specs.Steps.{CanRefute, Run}
use Rattle.lf_unification.specs.Unifiers.{Store}
use Rattle.lf_cases.specs.Candidates.{case_candidates}
use Rattle.lf_cases.specs.Case.{Item, Case, items_context}
use Rattle.lf_cases.specs.Pattern.{Pattern}
use Rattle.lf_cases.specs.Reached.{arguments_count, IsApart, SplitHead}
use Rattle.lf_cases.specs.Split.{Ends, HasNoBlockVariable}
use Rattle.lf_coverage.specs.Calls.{SplitIs, cases}
use Rattle.lf_coverage.specs.CandidateRuns.{RefutesCandidate}
use Rattle.lf_coverage.specs.HeadOrder.{Offer}
use Rattle.lf_coverage.specs.Heads.{HeadsAreAnswered, IsTypedCase, GivesNone}
use Rattle.lf_coverage.specs.Leaf.{IsInstanceLeaf, IsTypedPattern}
use Rattle.lf_coverage.specs.MeetStore.{IsConstants, IsOpen, meet_store}
use Rattle.lf_coverage.specs.RefutedSplits.{IsRefutedSplit}
use Rattle.lf_coverage.specs.Renumbering.{AgreeOn, Renumbering, renumbered_store}
use Rattle.lf_coverage.specs.SplitStore.{solved_case_at, split_store}
use Rattle.lf_coverage.specs.Subordinate.{AllQuantifiersAreBelow}
use Rattle.lf_coverage.specs.TypedCase.{IsTypedBeside}
use Rattle.lf_coverage.specs.TypedLocal.{HasTypedLocal}

-- A run of a store is one under other numbers, where the metavariables that were declared keep theirs. New ones may take others.
abbrev pub RunUnderNumbers : Type 0
RunUnderNumbers = (Σ : Signature) → IsSignature Σ → (π : Renumbering) (before after : Store) → Run Σ before after → (ρ : Renumbering) × AgreeOn before.metavariables π ρ × Run Σ (renumbered_store π before) (renumbered_store ρ after)

-- What steps refute they refute under other numbers, and the other way round.
abbrev pub RefutedUnderNumbers : Type 0
RefutedUnderNumbers = (Σ : Signature) → IsSignature Σ → (π : Renumbering) (s : Store) → (CanRefute Σ s → CanRefute Σ (renumbered_store π s)) × (CanRefute Σ (renumbered_store π s) → CanRefute Σ s)

-- So what is refuted under any numbers gives no case, beside whatever set.
abbrev pub RefutedGivesNoneUnderNumbers : Type 0
RefutedGivesNoneUnderNumbers = (Σ : Signature) → IsSignature Σ → (W : List Block) → AreTypedBlocks Σ W → (below : ℕ → ℕ → Bool) (S : ℕ → Bool) (C : Case) → IsTypedCase Σ W C → (x : ℕ) (X : LfType) → TypeAt (items_context C.items) x X → (J : List Item) (n : ℕ) (h : Head) (A : LfType) → SplitHead Σ W C.items X J n h A → HasNoBlockVariable J → (K : Kind) → Σ.kinds (target X) ≡ Some K → (π : Renumbering) → CanRefute Σ (renumbered_store π (split_store below x X J n h A K)) → GivesNone Σ W S below x X J n h A

-- And a case and a constant's clause whose store is refuted under any numbers are apart.
abbrev pub RefutedIsApartUnderNumbers : Type 0
RefutedIsApartUnderNumbers = (Σ : Signature) → IsSignature Σ → (W : List Block) → AreTypedBlocks Σ W → (C : Case) → HasNoBlockVariable C.items → (p : Pattern) → IsTypedPattern Σ p → IsConstants p.origin → IsTypedBeside Σ W C p → (K : Kind) → Σ.kinds C.family ≡ Some K → (π : Renumbering) → CanRefute Σ (renumbered_store π (meet_store C p K)) → IsApart Σ W (IsOpen Σ) C p

-- What solving finds for a head in these numbers: the store is solved, and the case is read off at them; or steps refute it, and there is no case.
abbrev pub SolvingFinds : Signature → (ℕ → ℕ → Bool) → Case → ℕ → LfType → Offer → Kind → Renumbering → Option Case → Type 0
SolvingFinds Σ below C x X h K π (Some D) = (after : Store) × (s : Solved Σ (renumbered_store π (split_store below x X h.items h.moved h.head h.type K)) after) × (D ≡ solved_case_at C (λ i. π.to (i + (h.moved + arguments_count h.type))) after s.well_formed.order)
SolvingFinds Σ below C x X h K π None = CanRefute Σ (renumbered_store π (split_store below x X h.items h.moved h.head h.type K))

-- So solving answers at a head, whose items are free variables, in some numbers.
pub record HeadIsFound (Σ : Signature) (below : ℕ → ℕ → Bool) (C : Case) (x : ℕ) (X : LfType) (h : Offer) (found : Option Case) : Type 0 where
  pub kind : Kind
  pub of_family : Σ.kinds (target X) ≡ Some kind
  pub no_block : HasNoBlockVariable h.items
  pub numbers : Renumbering
  pub finds : SolvingFinds Σ below C x X h kind numbers found

-- A split of the free variable x of C at each head of which solving answers so: plus X Y _ by z and s, where the store of s has X = s X' as 1 = s 0.
abbrev pub IsFoundSplit : Signature → List Block → (ℕ → ℕ → Bool) → Case → ℕ → List Case → Type 0
IsFoundSplit Σ W below C x Cs = HeadsAreAnswered Σ W (HeadIsFound Σ below C x) C x Cs

-- In the theory's numbers it is a split at each head of which unification answers, and steps refute what is never solved.
abbrev pub FoundSplitIsRefuted : Type 0
FoundSplitIsRefuted = (Σ : Signature) → IsSignature Σ → (W : List Block) → AreTypedBlocks Σ W → (below : ℕ → ℕ → Bool) (C : Case) → IsTypedCase Σ W C → HasTypedLocal Σ C → (x : ℕ) (Cs : List Case) → IsFoundSplit Σ W below C x Cs → IsRefutedSplit Σ W below C x Cs

-- And each such split is found so, whatever numbers the stores of its heads have.
abbrev pub RefutedSplitIsFound : Type 0
RefutedSplitIsFound = (Σ : Signature) → IsSignature Σ → (W : List Block) → AreTypedBlocks Σ W → (below : ℕ → ℕ → Bool) (C : Case) → IsTypedCase Σ W C → HasTypedLocal Σ C → (x : ℕ) (Cs : List Case) → (Offer → Renumbering) → IsRefutedSplit Σ W below C x Cs → IsFoundSplit Σ W below C x Cs

-- So its cases are those of the variable.
abbrev pub FoundSplitIsAnswer : Type 0
FoundSplitIsAnswer = (Σ : Signature) → IsSignature Σ → (W : List Block) → AreTypedBlocks Σ W → (below : ℕ → ℕ → Bool) → ((f : ℕ) → IsBelowTest Σ W (below f) f) → (C : Case) → IsTypedCase Σ W C → HasTypedLocal Σ C → AllQuantifiersAreBelow below (items_context C.items) → (x : ℕ) (Cs : List Case) → IsFoundSplit Σ W below C x Cs → SplitIs Σ W below C x (cases Cs)

-- A case is split at a candidate of one of the patterns, and at each head solving answers so.
abbrev pub FindsCandidate : Signature → List Block → (ℕ → ℕ → Bool) → List Pattern → Case → List Case → Type 0
FindsCandidate Σ W below ps C Cs = (x : ℕ) × (p : Pattern) × Member p ps × Member x (case_candidates C p) × IsFoundSplit Σ W below C x Cs

-- A run of these from a typed case of free variables is one by splits at candidates at which unification answers or refutes. So the laws of those runs
-- hold of it.
abbrev pub FoundRunIsRefuted : Type 0
FoundRunIsRefuted = (Σ : Signature) → IsSignature Σ → (W : List Block) → AreTypedBlocks Σ W → (below : ℕ → ℕ → Bool) (ps : List Pattern) (goal : Case) → IsTypedCase Σ W goal → HasTypedLocal Σ goal → HasNoBlockVariable goal.items → Ends (IsInstanceLeaf Σ W ps) (FindsCandidate Σ W below ps) goal → Ends (IsInstanceLeaf Σ W ps) (RefutesCandidate Σ W below ps) goal
