-- The answer of unification over the signature with entries, for a case with block variables by number: a typed unifier on own terms, read back, is a
-- ground instance of the answer's block variables and free variables.
use Rattle.std.specs.Prelude.{◌≡◌, ℕ, zero, ◌+◌, List, [], length, Bool, Option, Some}
use Rattle.lf.specs.Syntax.{Term, Spine, LfType, Skeleton, skeleton, rename}
use Rattle.lf.specs.SkeletonTyping.{TermSkeleton}
use Rattle.lf.specs.Skeletons.{constant_skeletons, context_skeletons}
use Rattle.lf.specs.Substitution.{Image, put, substitute, reduce}
use Rattle.lf.specs.Subordination.{Block}
use Rattle.lf.specs.Typing.{Signature, TypeAt, IsTypedSubstitution, IsSignature}
use Rattle.lf.specs.Worlds.{World}
use Rattle.lf_unification.specs.Dependency.{ListedMetavariable, free_context, values}
use Rattle.lf_unification.specs.OpenTyping.{skeletons_of}
use Rattle.lf_unification.specs.Solving.{IsWellFormed, Solved}
use Rattle.lf_unification.specs.Unifiers.{Solution, Store}
use Rattle.lf_coverage.specs.SplitStore.{answer_values}
use Rattle.lf_numbered.specs.NumberedCase.{NumberedCase, AreTypedBlockVariables, IsNumberedInstance}
use Rattle.lf_numbered.specs.OwnTerms.{BlockVariable, blocks_of, own_terms, TypeOnOwnTerms, put_in_blocks}
use Rattle.lf_numbered.specs.OwnValues.{ValuesOnOwnTerms}
use Rattle.lf_numbered.specs.OwnValuesReading.{ReadBackKeepsTyping, AreReadAs, AreReadInstances}
use Rattle.lf_numbered.specs.Reading.{read, entry_reading}

-- The variable i of the case is the metavariable i + k, and has under the filling β of Ψ the value that τ gives.
abbrev pub AreValuesUnder : List LfType → ℕ → (ℕ → Option LfType) → (ℕ → Option Term) → (ℕ → Image) → Type 0
AreValuesUnder X k Ψ β τ = (i : ℕ) (A : LfType) → TypeAt X i A → (B : LfType) × (V : Term) × (Ψ (i + k) ≡ Some B) × (skeleton B ≡ skeleton A) × (τ i ≡ put (skeleton A) V) × (β (i + k) ≡ Some V)

-- The case D has a ground instance under which the answer's values are those of β, read back; and what is typed over the variables X, with the
-- answer's values put in, is the same with the values τ put in, read back.
pub record AnswerInstance (Σ₁ : Signature) {Σ' : Signature} {W : List Block} {S : ℕ → Bool} {G : List LfType} (w : World Σ' W S G) (first : ℕ) (θ : ℕ → ℕ → Image) (f : ℕ → Option (ℕ × ℕ)) (ρ : ℕ → ℕ) (X : List LfType) (k : ℕ) (τ : ℕ → Image) (D : NumberedCase) (Ψ : ℕ → Option LfType) (after : Store) (order : List ListedMetavariable) (β : ℕ → Option Term) : Type 0 where
  pub values_of : ℕ → Image
  pub is_instance : IsNumberedInstance w first D θ values_of
  pub same : (m : ℕ) (A : LfType) (V : Term) → Ψ m ≡ Some A → β m ≡ Some V → (N : Term) × (values (skeletons_of after.metavariables) order m ≡ Some N) × (substitute reduce values_of (read (entry_reading first (blocks_of D.blocks) θ (length D.variables)) N) ≡ rename ρ (read f V))
  pub terms : (M : Term) (t : Skeleton) → TermSkeleton (constant_skeletons Σ₁) (context_skeletons X) M t → substitute reduce values_of (read (entry_reading first (blocks_of D.blocks) θ (length D.variables)) (substitute reduce (λ i. answer_values after order (i + k)) M)) ≡ rename ρ (read f (substitute reduce τ M))

-- Where unification solves, with the variables X and block variables bs of a case, a typed unifier β under which they have typed values on own terms is
-- so the ground instance of each case that has the answer's free variables and block variables, if the types of these are on own terms.
abbrev pub AnswerIsInstance : Type 0
AnswerIsInstance = (Σ₁ Σ' : Signature) → IsSignature Σ₁ → (W V : List Block) (S : ℕ → Bool) (G : List LfType) (w : World Σ' V S G) (first : ℕ) (bs : List BlockVariable) (θ : ℕ → ℕ → Image) (X F : List LfType) (f : ℕ → Option (ℕ × ℕ)) (ρ : ℕ → ℕ) (p : ℕ → Option Spine) → AreTypedBlockVariables Σ₁ W X p bs → (τ : ℕ → Image) → ReadBackKeepsTyping Σ₁ Σ' F G f (own_terms first (put_in_blocks τ bs)) ρ → AreReadAs first (blocks_of bs) f ρ θ → AreReadInstances w f ρ τ θ zero bs → (before after : Store) → IsWellFormed Σ₁ before → (s : Solved Σ₁ before after) → (β : ℕ → Option Term) → Solution Σ₁ [] before F β → ValuesOnOwnTerms (own_terms first (put_in_blocks τ bs)) before.metavariables β → (k : ℕ) → AreValuesUnder X k before.metavariables β τ → (D : NumberedCase) → D.variables ≡ free_context (skeletons_of after.metavariables) s.well_formed.order → D.blocks ≡ put_in_blocks (λ i. answer_values after s.well_formed.order (i + k)) bs → IsTypedSubstitution Σ₁ X D.variables (λ i. answer_values after s.well_formed.order (i + k)) → ((i : ℕ) (A : LfType) → TypeAt D.variables i A → TypeOnOwnTerms (own_terms first D.blocks) A) → AnswerInstance Σ₁ w first θ f ρ X k τ D before.metavariables after s.well_formed.order β
