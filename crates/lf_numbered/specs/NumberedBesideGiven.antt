-- A case with block variables by number that is typed beside a pattern: also what stands outside the pattern's clause is given, by the terms of a block
-- variable of the case. So an entry's own block variable is that of the number 0, and the numberless definition over the signature with entries is used.
use Rattle.std.specs.Prelude.{◌≡◌, ◌<◌, ℕ, zero, suc, List, [], ◌∷◌, Bool, true, Option, Some, None}
use Rattle.lf.specs.Syntax.{Term, Spine, LfType, Kind, skeleton}
use Rattle.lf.specs.Substitution.{Image}
use Rattle.lf.specs.Typing.{Signature, IsSignature}
use Rattle.lf.specs.Variables.{target, target_arguments, binders, everything, UsesType, Within}
use Rattle.lf.specs.Subordination.{Block, AreTypedBlocks}
use Rattle.lf_checks.specs.Clause.{Clause, IsClause, IsSubgoal, outside, scope}
use Rattle.lf_checks.specs.Ground.{UsesGoal, ground_first}
use Rattle.lf_checks.specs.GroundUntil.{ground_until}
use Rattle.lf_checks.specs.Marks.{Mark, HasSoundMarks, NoneFree, UsesPlaces, input_places}
use Rattle.lf_checks.specs.Modes.{WellModed}
use Rattle.lf_cases.specs.Case.{Case, as_term}
use Rattle.lf_cases.specs.Cover.{before}
use Rattle.lf_cases.specs.OutputGoal.{free_variables}
use Rattle.lf_cases.specs.Pattern.{Origin, of_constant, of_entry, Pattern, origin, subgoal_pattern}
use Rattle.lf_unification.specs.Solving.{IsWellFormed}
use Rattle.lf_coverage.specs.Leaf.{IsTypedPattern}
use Rattle.lf_coverage.specs.Matching.{HoldsTypes}
use Rattle.lf_coverage.specs.MeetStore.{meet_store}
use Rattle.lf_coverage.specs.TypedCase.{IsTypedBeside}
use Rattle.lf_numbered.specs.EntryConstants.{IsFreeFrom, with_entries}
use Rattle.lf_numbered.specs.EntryPatterns.{variable_images}
use Rattle.lf_numbered.specs.EntryPatternsOutputs.{numbered_output_goal}
use Rattle.lf_numbered.specs.NumberedCase.{NumberedCase}
use Rattle.lf_numbered.specs.NumberedInstance.{block_at}
use Rattle.lf_numbered.specs.OwnTerms.{blocks_of}
use Rattle.lf_numbered.specs.TypedNumbered.{IsTypedNumberedCase}

-- what an image is for each variable of the context, as terms
abbrev pub outside_terms : List LfType → (ℕ → Image) → List (Option Term)
outside_terms [] φ = []
outside_terms (A ∷ G) φ = Some (as_term (skeleton A) (φ zero)) ∷ outside_terms G (λ i. φ (suc i))

-- The given terms, one place for each quantifier of the clause, and behind them those for what stands outside it.
abbrev pub given_over : List LfType → List (Option Term) → List (Option Term) → List (Option Term)
given_over [] Ms Ns = Ns
given_over (A ∷ D) [] Ns = None ∷ given_over D [] Ns
given_over (A ∷ D) (M ∷ Ms) Ns = M ∷ given_over D Ms Ns

-- The case over the signature with entries, where also what stands outside the clause is given, by φ.
abbrev pub with_outside : NumberedCase → Pattern → (ℕ → Image) → Case
with_outside C p φ = record { items = free_variables C.variables; given = given_over (binders [] p.clause.type) C.given (outside_terms p.clause.outer φ); local = C.local; family = C.family; arguments = C.arguments }

-- φ is what a block variable of the case gives to what stands outside the clause, for the entry of the first block variable alone that of number 0.
abbrev pub GivesOutside : ℕ → NumberedCase → {c : Clause} → Origin c → Bool → (ℕ → Image) → Type 0
GivesOutside first C (of_constant U) b φ = Unit {0}
GivesOutside first C (of_entry B later E es e) b φ = (k : ℕ) × (U : Spine) × (block_at C.blocks k ≡ Some (record { block = B; terms = U })) × (b ≡ true → k ≡ zero) × (φ ≡ before later (variable_images first C.blocks k B U))

-- A typed case that is typed beside the pattern. The goal q N D of the outputs of v's subgoal in some {n:exp} block {v:({D:t n} q n D -> r)} is so, where
-- n is N: D has the type t N for the block variable's own N.
pub record IsTypedBesideByNumber (Σ : Signature) (first : ℕ) (W : List Block) (C : NumberedCase) (p : Pattern) : Type 0 where
  pub typed : IsTypedNumberedCase Σ first W C
  pub outer : ℕ → Image
  pub stands : GivesOutside first C p.origin p.at_first outer
  pub beside : IsTypedBeside (with_entries Σ first (blocks_of C.blocks)) [] (with_outside C p outer) p

-- So the equations of such a case and the pattern's own are a store that is handed to unification over the signature with entries.
abbrev pub NumberedMeetStoreIsReady : Type 0
NumberedMeetStoreIsReady = (Σ : Signature) → IsSignature Σ → (W : List Block) → AreTypedBlocks Σ W → (first : ℕ) → IsFreeFrom Σ first → (C : NumberedCase) (p : Pattern) → IsTypedPattern Σ p → (b : IsTypedBesideByNumber Σ first W C p) → (K : Kind) → Σ.kinds C.family ≡ Some K → IsWellFormed (with_entries Σ first (blocks_of C.blocks)) (meet_store (with_outside C p b.outer) p K)

-- The goal of the outputs of any clause's subgoal is typed beside it, of an entry's too, where what is ground has what stands outside the clause and
-- holds the variables in the types of its variables.
abbrev pub NumberedOutputGoalIsBeside : Type 0
NumberedOutputGoalIsBeside = (Σ : Signature) → IsSignature Σ → (W : List Block) → AreTypedBlocks Σ W → (first : ℕ) → IsFreeFrom Σ first → (below : ℕ → ℕ → Bool) (m : ℕ → List Mark) (c : Clause) (d : IsClause Σ W c) (U : ℕ → Bool) → Within (outside c.type everything) U → HoldsTypes U (scope c) → (i : ℕ) (A : LfType) → IsSubgoal c i A → UsesGoal U (input_places (m (target A))) A → HasSoundMarks Σ (target A) (m (target A)) → NoneFree (m (target A)) → (K : Kind) → Σ.kinds (target A) ≡ Some K → IsTypedBesideByNumber Σ first W (numbered_output_goal first below m (origin d) U A K) (subgoal_pattern c (origin d) A)

-- So the checks of modes give it, for an entry as for a constant: where the head's inputs mention only what they make ground, and each earlier subgoal only
-- what is ground after it.
abbrev pub NumberedStrictGoalsAreBeside : Type 0
NumberedStrictGoalsAreBeside = (Σ : Signature) → IsSignature Σ → (W : List Block) → AreTypedBlocks Σ W → (first : ℕ) → IsFreeFrom Σ first → (below : ℕ → ℕ → Bool) (m : ℕ → List Mark) (moded : ℕ → Bool) (c : Clause) (d : IsClause Σ W c) → WellModed Σ m moded c → NoneFree (m (target c.type)) → UsesPlaces (ground_first m c) (input_places (m (target c.type))) (target_arguments c.type) → (i : ℕ) (A : LfType) → IsSubgoal c i A → ((j : ℕ) (B : LfType) → j < i → IsSubgoal c j B → UsesType (ground_until everything m c (suc j)) B) → NoneFree (m (target A)) → (K : Kind) → Σ.kinds (target A) ≡ Some K → IsTypedBesideByNumber Σ first W (numbered_output_goal first below m (origin d) (ground_until everything m c i) A K) (subgoal_pattern c (origin d) A)
