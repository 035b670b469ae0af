-- Cases of patterns: with metavariables for their variables, each of these stands on distinct bound variables, in their items' types and in their
-- arguments. Of cases without a local context, as those of inputs.
use Rattle.std.specs.Prelude.{◌≡◌, ℕ, zero, ◌+◌, List, [], ◌∷◌, Bool, Option, Some, None}
use Rattle.lf.specs.Subordination.{Block}
use Rattle.lf.specs.Syntax.{Head, Term, LfType, Kind, Skeleton}
use Rattle.lf.specs.Typing.{Signature, TypeAt, IsSignature}
use Rattle.lf.specs.Variables.{nothing}
use Rattle.lf_unification.specs.Solving.{Solved}
use Rattle.lf_unification.specs.Unifiers.{Store}
use Rattle.lf_cases.specs.Candidates.{free_among}
use Rattle.lf_cases.specs.Case.{Item, Case, items_context}
use Rattle.lf_cases.specs.Reached.{SplitHead, arguments_count, split_items}
use Rattle.lf_cases.specs.Split.{HasNoBlockVariable}
use Rattle.lf_coverage.specs.FullMatching.{AllHavePatterns}
use Rattle.lf_coverage.specs.Heads.{IsTypedCase}
use Rattle.lf_coverage.specs.PatternStores.{IsPatternStore, IsPatternTerm, TypesArePatterns}
use Rattle.lf_coverage.specs.SplitStore.{context_metavariables, open_term, solved_case, split_store}

-- each argument that there is
abbrev pub ArgumentsArePatterns : Signature → (ℕ → Option LfType) → List (Option Term) → Type 0
ArgumentsArePatterns Σ Ψ [] = Unit {0}
ArgumentsArePatterns Σ Ψ (Some M ∷ Ms) = ((t : Skeleton) × IsPatternTerm Σ Ψ [] (open_term zero M) t) × ArgumentsArePatterns Σ Ψ Ms
ArgumentsArePatterns Σ Ψ (None ∷ Ms) = ArgumentsArePatterns Σ Ψ Ms

-- Such a case. Nothing is asked of what is given. So is eq z Y; not eq z (F z).
pub record IsPatternCase (Σ : Signature) (C : Case) : Type 0 where
  pub no_local : C.local ≡ []
  pub types : TypesArePatterns Σ (context_metavariables (items_context C.items))
  pub arguments : ArgumentsArePatterns Σ (context_metavariables (items_context C.items)) C.arguments

-- Where the split store of a case of patterns is a store of patterns, and the types that it declares have patterns, the case that is read off a
-- solved store is one of patterns.
abbrev pub SolvedCaseIsPattern : Type 0
SolvedCaseIsPattern = (Σ : Signature) → IsSignature Σ → (W : List Block) (below : ℕ → ℕ → Bool) (C : Case) → IsTypedCase Σ W C → IsPatternCase Σ C → (x : ℕ) (X : LfType) → TypeAt (items_context C.items) x X → (J : List Item) (n : ℕ) (h : Head) (A : LfType) → SplitHead Σ W C.items X J n h A → HasNoBlockVariable J → (K : Kind) → IsPatternStore Σ (split_store below x X J n h A K) → TypesArePatterns Σ (context_metavariables (items_context (split_items below X J n A))) → (after : Store) (s : Solved Σ (split_store below x X J n h A K) after) → IsPatternCase Σ (solved_case C (n + arguments_count A) after s.well_formed.order)

-- Such a case stands on patterns as matching asks, and as `InputRunIsNeverStuck` asks of a case in the empty world.
abbrev pub PatternCaseHasPatterns : Type 0
PatternCaseHasPatterns = (Σ : Signature) (W : List Block) (C : Case) → HasNoBlockVariable C.items → IsTypedCase Σ W C → IsPatternCase Σ C → AllHavePatterns nothing (free_among C.items) C.arguments
