-- The first equation of a split store has patterns: the variable, and the head on new variables that are raised over what the variable takes.
use Rattle.std.specs.Prelude.{◌≡◌, ℕ, zero, List, [], length, Bool}
use Rattle.lf.specs.AtOnce.{shift_by}
use Rattle.lf.specs.Eta.{eta_long}
use Rattle.lf.specs.Skeletons.{context_skeletons}
use Rattle.lf.specs.Subordination.{Block}
use Rattle.lf.specs.Syntax.{Head, LfType, base, rename_type, skeleton, variable}
use Rattle.lf.specs.Typing.{Signature, TypeAt}
use Rattle.lf.specs.Variables.{target}
use Rattle.lf_cases.specs.Case.{Item, items_context}
use Rattle.lf_cases.specs.Reached.{SplitHead, arguments_count, head_items, head_spine, head_term, split_items, taken}
use Rattle.lf_cases.specs.Split.{HasNoBlockVariable}
use Rattle.lf_coverage.specs.PatternStores.{ArePatternArguments, IsPatternTerm}
use Rattle.lf_coverage.specs.SplitStore.{context_metavariables, open_spine, open_term}

-- Each new variable of a head stands on the variables over which it is raised, which are distinct: whatever is chosen of them.
abbrev pub HeadArgumentsArePatterns : Type 0
HeadArgumentsArePatterns = (Σ : Signature) (ks : List (List Bool)) (D : List LfType) (n : ℕ) (A : LfType) (I : List Item) → arguments_count A ≡ n → ArePatternArguments Σ (context_metavariables (items_context (head_items ks D n A I))) (context_skeletons D) (open_spine (length D) (head_spine ks D A)) (skeleton A) (base (target A))

-- So does a variable of a context.
abbrev pub VariablesArePatterns : Type 0
VariablesArePatterns = (Σ : Signature) (G : List LfType) (x : ℕ) (X : LfType) → TypeAt G x X → IsPatternTerm Σ (context_metavariables G) [] (open_term zero (eta_long (skeleton X) (variable x))) (skeleton X)

-- So the head that a split puts for a variable has patterns, where its items are free variables.
abbrev pub HeadTermIsPattern : Type 0
HeadTermIsPattern = (Σ : Signature) (W : List Block) (below : ℕ → ℕ → Bool) (I J : List Item) (X : LfType) (n : ℕ) (h : Head) (A : LfType) → SplitHead Σ W I X J n h A → HasNoBlockVariable J → IsPatternTerm Σ (context_metavariables (items_context (split_items below X J n A))) [] (open_term zero (head_term below (taken (rename_type (shift_by n) X)) h A)) (skeleton X)
