-- When a split, and a run of the strategy, is too deep.
use Rattle.std.specs.Prelude.{◌≡◌, ℕ, ◌<◌, ◌⊎◌, List, [], ◌∷◌, Bool, Option, Some, None}
use Rattle.lf.specs.Syntax.{Head, Term, LfType, Kind, skeleton}
use Rattle.lf.specs.Typing.{Signature, TypeAt}
use Rattle.lf.specs.Depth.{depth, type_depth, depth_limit}
use Rattle.lf.specs.Variables.{target}
use Rattle.lf.specs.Subordination.{Block, Member}
use Rattle.lf_unification.specs.DeepEquations.{AreDeep}
use Rattle.lf_cases.specs.Case.{Item, free_variable, block_variable, Case, items_context, as_term}
use Rattle.lf_cases.specs.Pattern.{Pattern}
use Rattle.lf_cases.specs.Split.{HasNoBlockVariable}
use Rattle.lf_cases.specs.Reached.{SplitHead, IsSplitCase, IsInstanceOf, FirstCandidate, Reached}
use Rattle.lf_coverage.specs.SplitStore.{split_store}

-- one of the terms, or of the types, is deeper than the limit
abbrev pub HasDeepTerm : List (Option Term) → Type 0
HasDeepTerm [] = ⊥
HasDeepTerm (Some M ∷ Ms) = (depth_limit < depth M) ⊎ HasDeepTerm Ms
HasDeepTerm (None ∷ Ms) = HasDeepTerm Ms

abbrev pub HasDeepType : List LfType → Type 0
HasDeepType [] = ⊥
HasDeepType (A ∷ D) = (depth_limit < type_depth A) ⊎ HasDeepType D

-- the type of a free variable is, or what stands for a `some` variable of a block variable
abbrev pub HasDeepItem : List Item → Type 0
HasDeepItem [] = ⊥
HasDeepItem (free_variable A ∷ I) = (depth_limit < type_depth A) ⊎ HasDeepItem I
HasDeepItem (block_variable B υ ∷ I) = ((i : ℕ) × (A : LfType) × TypeAt B.some i A × (depth_limit < depth (as_term (skeleton A) (υ i)))) ⊎ HasDeepItem I

-- A deep case. plus (s .. (s z)) Y _ with 4,096 times s is one, and plus X Y _ isn't.
abbrev pub IsDeepCase : Case → Type 0
IsDeepCase C = HasDeepItem C.items ⊎ HasDeepTerm C.given ⊎ HasDeepType C.local ⊎ HasDeepTerm C.arguments

-- The split of x in C is too deep: for one of the heads the equations are deep, or the case that it gives is.
pub data SplitIsTooDeep (Σ : Signature) (W : List Block) (below : ℕ → ℕ → Bool) (C : Case) (x : ℕ) : Type 0 where
  deep_equations : (X : LfType) (J : List Item) (n : ℕ) (h : Head) (A : LfType) (K : Kind) → TypeAt (items_context C.items) x X → SplitHead Σ W C.items X J n h A → HasNoBlockVariable J → Σ.kinds (target X) ≡ Some K → AreDeep depth_limit Σ (split_store below x X J n h A K) → SplitIsTooDeep Σ W below C x
  deep_case : (D : Case) → IsSplitCase Σ W below C x D → IsDeepCase D → SplitIsTooDeep Σ W below C x

-- A run is too deep: it reaches a deep case, or the split of a case that it reaches is too deep.
pub data RunIsTooDeep (Σ : Signature) (W : List Block) (Open : Case → Pattern → Type 0) (below : ℕ → ℕ → Bool) (ps : List Pattern) (goal : Case) : Type 0 where
  reaches_deep : (C : Case) → Reached Σ W Open below ps goal C → IsDeepCase C → RunIsTooDeep Σ W Open below ps goal
  splits_deep : (C : Case) (x : ℕ) → Reached Σ W Open below ps goal C → ((p : Pattern) → Member p ps → IsInstanceOf Σ W C p → ⊥) → FirstCandidate Σ W Open C x ps → SplitIsTooDeep Σ W below C x → RunIsTooDeep Σ W Open below ps goal
