-- The store of a head whose metavariables have a program's own numbers, different ones for different ones, and what solving it finds.
use Rattle.std.specs.Prelude.{◌≡◌, ℕ, ◌+◌, ◌<◌, ◌≤◌, List, Bool, Some, None}
use Rattle.lf.specs.Subordination.{Block, AreTypedBlocks}
use Rattle.lf.specs.Syntax.{LfType, Kind}
use Rattle.lf.specs.Typing.{Signature, IsSignature, TypeAt}
use Rattle.lf.specs.Variables.{target}
use Rattle.lf_unification.specs.Solving.{Solved}
use Rattle.lf_unification.specs.Steps.{CanRefute}
use Rattle.lf_unification.specs.Unifiers.{Store}
use Rattle.lf_cases.specs.Case.{Case, items_context}
use Rattle.lf_cases.specs.Reached.{arguments_count, SplitHead}
use Rattle.lf_cases.specs.Split.{HasNoBlockVariable}
use Rattle.lf_coverage.specs.HeadOrder.{Offer}
use Rattle.lf_coverage.specs.Heads.{IsTypedCase}
use Rattle.lf_coverage.specs.RefutingNumbers.{HeadIsFound}
use Rattle.lf_coverage.specs.Renumbering.{HasNumbers}
use Rattle.lf_coverage.specs.SplitStore.{solved_case_at, split_store}
use Rattle.lf_coverage.specs.TypedLocal.{HasTypedLocal}

-- Where the store t has the metavariables of the head's store, of which those below n are declared, in the numbers g: what steps refute gives no case,
-- and what is solved gives the case that is read off at these numbers.
abbrev pub NumberedStoreIsFound : Type 0
NumberedStoreIsFound = (Σ : Signature) → IsSignature Σ → (W : List Block) → AreTypedBlocks Σ W → (below : ℕ → ℕ → Bool) (C : Case) → IsTypedCase Σ W C → HasTypedLocal Σ C → (x : ℕ) (X : LfType) → TypeAt (items_context C.items) x X → (h : Offer) → SplitHead Σ W C.items X h.items h.moved h.head h.type → HasNoBlockVariable h.items → (K : Kind) → Σ.kinds (target X) ≡ Some K → (n : ℕ) → ((m : ℕ) → n ≤ m → (split_store below x X h.items h.moved h.head h.type K).metavariables m ≡ None) → (g : ℕ → ℕ) → ((i j : ℕ) → i < n → j < n → g i ≡ g j → i ≡ j) → (t : Store) → HasNumbers g (split_store below x X h.items h.moved h.head h.type K) t →
    (CanRefute Σ t → HeadIsFound Σ below C x X h None)
    × ((after : Store) (s : Solved Σ t after) → HeadIsFound Σ below C x X h (Some (solved_case_at C (λ i. g (i + (h.moved + arguments_count h.type))) after s.well_formed.order)))
