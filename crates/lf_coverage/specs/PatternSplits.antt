-- Splits of cases of patterns, also over families with indices.
use Rattle.std.specs.Prelude.{◌≡◌, ℕ, ◌+◌, List, length, Bool, Some}
use Rattle.lf.specs.AtOnce.{shift_by}
use Rattle.lf.specs.Skeletons.{context_skeletons}
use Rattle.lf.specs.Subordination.{Block}
use Rattle.lf.specs.Syntax.{Head, LfType, Kind, rename_type}
use Rattle.lf.specs.Typing.{Signature, IsSignature, TypeAt}
use Rattle.lf.specs.Variables.{target}
use Rattle.lf_unification.specs.Solving.{Solved}
use Rattle.lf_unification.specs.Unifiers.{Store}
use Rattle.lf_cases.specs.Case.{Item, Case, items_context}
use Rattle.lf_cases.specs.Reached.{SplitHead, arguments_count, head_masks, split_items, taken}
use Rattle.lf_cases.specs.Split.{HasNoBlockVariable}
use Rattle.lf_coverage.specs.Heads.{IsTypedCase, result_type}
use Rattle.lf_coverage.specs.PatternCases.{IsPatternCase}
use Rattle.lf_coverage.specs.PatternStores.{IsPatternStore, IsPatternType, TypesArePatterns}
use Rattle.lf_coverage.specs.SplitStore.{context_metavariables, open_type, solved_case, split_store}

-- The type of a head on its new variables has patterns, and so have the types of these and of the items. So of s: nat. Not of a head of type
-- {x:nat} vec (F x), where F is an item: its type on a new variable Y is vec (F Y).
pub record HeadHasPatterns (Σ : Signature) (below : ℕ → ℕ → Bool) (X : LfType) (J : List Item) (n : ℕ) (A : LfType) : Type 0 where
  pub declared : TypesArePatterns Σ (context_metavariables (items_context (split_items below X J n A)))
  pub result : IsPatternType Σ (context_metavariables (items_context (split_items below X J n A))) (context_skeletons (taken X)) (open_type (length (taken X)) (result_type (head_masks below (taken (rename_type (shift_by n) X)) (arguments_count A) A) (taken (rename_type (shift_by n) X)) (arguments_count A) A))

-- Then the split store is one of patterns: both sides of the equation of the variable with the head, and of those of the indices of their types.
abbrev pub SplitStoreIsPattern : Type 0
SplitStoreIsPattern = (Σ : Signature) (W : List Block) (below : ℕ → ℕ → Bool) (I J : List Item) (x : ℕ) (X : LfType) → TypeAt (items_context I) x X → (n : ℕ) (h : Head) (A : LfType) → SplitHead Σ W I X J n h A → HasNoBlockVariable J → (K : Kind) → Σ.kinds (target X) ≡ Some K → HeadHasPatterns Σ below X J n A → IsPatternStore Σ (split_store below x X J n h A K)

-- So the case that is read off a solved one is a case of patterns.
abbrev pub SplitCaseIsPattern : Type 0
SplitCaseIsPattern = (Σ : Signature) → IsSignature Σ → (W : List Block) (below : ℕ → ℕ → Bool) (C : Case) → IsTypedCase Σ W C → IsPatternCase Σ C → (x : ℕ) (X : LfType) → TypeAt (items_context C.items) x X → (J : List Item) (n : ℕ) (h : Head) (A : LfType) → SplitHead Σ W C.items X J n h A → HasNoBlockVariable J → (K : Kind) → Σ.kinds (target X) ≡ Some K → HeadHasPatterns Σ below X J n A → (after : Store) (s : Solved Σ (split_store below x X J n h A K) after) → IsPatternCase Σ (solved_case C (n + arguments_count A) after s.well_formed.order)
