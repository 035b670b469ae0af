-- Matching the arguments of a case with those of a linear and full clause.
use Rattle.std.specs.Prelude.{◌≡◌, ℕ, ◌≤◌, List, [], ◌∷◌, length, Bool, true, false, Option, Some, None}
use Rattle.lf.specs.Syntax.{Term, Spine, nil, app, LfType, Kind, atom, skeleton, rename, rename_type}
use Rattle.lf.specs.Substitution.{Image, substitute_spine, reduce}
use Rattle.lf.specs.AtOnce.{lift_by}
use Rattle.lf.specs.SkeletonTyping.{TermSkeleton, SubstitutionBySkeletons}
use Rattle.lf.specs.Skeletons.{constant_skeletons, context_skeletons}
use Rattle.lf.specs.Typing.{Signature, HasType, SpineType, SpineFitsKind, IsType, IsContext, IsSignature}
use Rattle.lf.specs.Variables.{onto, target, target_arguments, nothing, everything}
use Rattle.lf.specs.Subordination.{Block, AreTypedBlocks, IsBelowTest}
use Rattle.lf_checks.specs.Strict.{pattern_arguments}
use Rattle.lf_checks.specs.Marks.{Mark, input_places, SamePlaces}
use Rattle.lf_checks.specs.Clause.{constant_clause}
use Rattle.lf_checks.specs.Ground.{UsesGoal}
use Rattle.lf_cases.specs.Case.{Case, items_context, HasArguments, covered_places}
use Rattle.lf_cases.specs.Candidates.{candidates_at, case_candidates, free_among}
use Rattle.lf_cases.specs.Missing.{CommonInstance}
use Rattle.lf_cases.specs.Pattern.{of_constant, head_pattern, ground_in}
use Rattle.lf_cases.specs.Split.{HasNoBlockVariable}
use Rattle.lf_cases.specs.Full.{occurrences_at, AreFullPlaces, IsLinear, IsFull}
use Rattle.lf_coverage.specs.Subordinate.{AllQuantifiersAreBelow}
use Rattle.lf_coverage.specs.TypedCase.{TypedArguments}
use Rattle.lf_coverage.specs.Matching.{ArePlaces}
use Rattle.lf_coverage.specs.TermMatching.{HasPatterns, bound, hidden, over, Stay, TakesBack, GivesSkeletons}

-- patterns in the arguments that there are, and in the chosen places of a tuple
abbrev pub AllHavePatterns : (ℕ → Bool) → (ℕ → Bool) → List (Option Term) → Type 0
AllHavePatterns B F [] = Unit {0}
AllHavePatterns B F (Some M ∷ Ms) = HasPatterns B F M × AllHavePatterns B F Ms
AllHavePatterns B F (None ∷ Ms) = AllHavePatterns B F Ms

abbrev pub PlacesHavePatterns : (ℕ → Bool) → (ℕ → Bool) → List Bool → Spine → Type 0
PlacesHavePatterns B P [] T = Unit {0}
PlacesHavePatterns B P (b ∷ m) nil = Unit {0}
PlacesHavePatterns B P (true ∷ m) (app N T) = HasPatterns B P N × PlacesHavePatterns B P m T
PlacesHavePatterns B P (false ∷ m) (app N T) = PlacesHavePatterns B P m T

-- Values that are those of θ but for the variables of P in the chosen places, and make the tuple the arguments, under n bound variables.
pub record PlacesMatch (Σ : Signature) (Δ C : List LfType) (P : ℕ → Bool) (n : ℕ) (θ : ℕ → Image) (Ms : List (Option Term)) (T : Spine) : Type 0 where
  pub values : ℕ → Image
  pub skeletons : SubstitutionBySkeletons (constant_skeletons Σ) (context_skeletons C) (context_skeletons Δ) θ → SubstitutionBySkeletons (constant_skeletons Σ) (context_skeletons C) (context_skeletons Δ) values
  pub others : (x : ℕ) → (P x ≡ true → occurrences_at (covered_places Ms) (over n x) T ≡ 0) → values x ≡ θ x
  pub same : ArePlaces Ms (substitute_spine reduce (lift_by n values) T)

-- The arguments Ms of a case, over Δ and under the local context D', and a tuple T, over the context C of a clause and under D, are of one
-- family. Values σ and τ make both one tuple V at the covered places. The variables of the case are those of F, and those of the clause
-- those of P. All have patterns, and the clause's tuple is linear and full. If no variable of the case is a candidate, values make T the arguments.
abbrev pub FullPlacesMatch : Type 0
FullPlacesMatch = (Σ : Signature) → IsSignature Σ → (W : List Block) → AreTypedBlocks Σ W → (below : ℕ → ℕ → Bool) → ((f : ℕ) → IsBelowTest Σ W (below f) f) → (C Δ D D' : List LfType) (F P : ℕ → Bool) (σ τ θ : ℕ → Image) → Stay (context_skeletons Δ) F σ → Stay (context_skeletons C) P τ → TakesBack F P σ τ θ → GivesSkeletons Σ (context_skeletons Δ) (context_skeletons C) P θ → (a : ℕ) (K : Kind) → Σ.kinds a ≡ Some K → (Ms : List (Option Term)) (T O V : Spine) → context_skeletons D ≡ context_skeletons D' → AllQuantifiersAreBelow below (onto D' Δ) → TypedArguments Σ (onto D' Δ) Ms O K → SpineFitsKind Σ (onto D C) T K → AllHavePatterns (bound (length D)) (hidden (length D) F) Ms → PlacesHavePatterns (bound (length D)) (hidden (length D) P) (covered_places Ms) T → ((x : ℕ) → P x ≡ true → occurrences_at (covered_places Ms) (over (length D) x) T ≤ 1) → AreFullPlaces Σ below C (hidden (length D) P) D (covered_places Ms) T K → HasArguments (lift_by (length D) σ) Ms V → SamePlaces (covered_places Ms) V (substitute_spine reduce (lift_by (length D) τ) T) → candidates_at (bound (length D)) (hidden (length D) F) (hidden (length D) P) (length D) Ms T ≡ [] → PlacesMatch Σ Δ C P (length D) θ Ms T

-- In the empty world: a case of inputs whose free variables stand on distinct bound variables, and which shares an instance with a constant's
-- clause that is linear and full and whose head has patterns, has a candidate, or values make the inputs of the head those of the case.
abbrev pub InputsMatch : Type 0
InputsMatch = (Σ : Signature) → IsSignature Σ → (below : ℕ → ℕ → Bool) → ((f : ℕ) → IsBelowTest Σ [] (below f) f) → (m : ℕ → List Mark) (C : Case) → HasNoBlockVariable C.items → C.given ≡ [] → C.local ≡ [] → covered_places C.arguments ≡ input_places (m C.family) → AllQuantifiersAreBelow below (items_context C.items) → (K : Kind) → Σ.kinds C.family ≡ Some K → (O : Spine) → TypedArguments Σ (items_context C.items) C.arguments O K → AllHavePatterns nothing (free_among C.items) C.arguments → (k : ℕ) (U : LfType) → Σ.types k ≡ Some U → target U ≡ C.family → PlacesHavePatterns nothing everything (input_places (m C.family)) (target_arguments U) → IsLinear m (constant_clause U) → IsFull Σ below m (constant_clause U) → CommonInstance Σ [] C (head_pattern (constant_clause U) (of_constant U)) → case_candidates C (head_pattern (constant_clause U) (of_constant U)) ≡ [] → (τ : ℕ → Image) × ArePlaces C.arguments (substitute_spine reduce τ (target_arguments U))

-- And where the head of a constant's clause has patterns in the chosen places, each variable in them has a strict occurrence there, as an instance asks.
abbrev pub HeadsAreStrict : Type 0
HeadsAreStrict = (Σ : Signature) (U : LfType) → IsType Σ [] U → (m : List Bool) (Ms : List (Option Term)) → PlacesHavePatterns nothing everything m (target_arguments U) → UsesGoal (ground_in (head_pattern (constant_clause U) (of_constant U)) m Ms) m (atom (target U) (target_arguments U))

-- A value over Δ that, on distinct bound variables of D, is a term of a type is itself of the type that takes these variables to it.
abbrev pub PatternValuesAreTyped : Type 0
PatternValuesAreTyped = (Σ : Signature) → IsSignature Σ → (D Δ : List LfType) → IsContext Σ (onto D Δ) → (X P : LfType) → IsType Σ Δ X → (V : Term) → TermSkeleton (constant_skeletons Σ) (context_skeletons Δ) V (skeleton X) → (S : Spine) → pattern_arguments (bound (length D)) [] S ≡ true → SpineType Σ (onto D Δ) S (rename_type (over (length D)) X) P → HasType Σ (onto D Δ) (reduce (skeleton X) (rename (over (length D)) V) S) P → HasType Σ Δ V X
