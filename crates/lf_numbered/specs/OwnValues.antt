-- Values of metavariables that stand on own terms. Here o gives for each constant that is an entry its own terms in the context of the values, as
-- they are under a filling that is given; so o stays the same along a run of steps of unification.
use Rattle.std.specs.Prelude.{◌≡◌, ℕ, List, [], Option, Some}
use Rattle.lf.specs.Syntax.{Term, Spine, LfType, skeleton}
use Rattle.lf.specs.Substitution.{Image, put, substitute, substitute_image, substitute_type, reduce}
use Rattle.lf.specs.Typing.{Signature, TypeAt, IsTypedSubstitution, IsSignature}
use Rattle.lf.specs.Subordination.{Block}
use Rattle.lf_unification.specs.Dependency.{ListedMetavariable, free_context, values}
use Rattle.lf_unification.specs.Filling.{fill_type}
use Rattle.lf_unification.specs.OpenTyping.{skeletons_of}
use Rattle.lf_unification.specs.Solving.{IsWellFormed, Solved}
use Rattle.lf_unification.specs.Steps.{Run}
use Rattle.lf_unification.specs.Unifiers.{ExtendsFilling, Solution, Store}
use Rattle.lf_numbered.specs.NumberedCase.{AreTypedBlockVariables}
use Rattle.lf_numbered.specs.OwnTerms.{BlockVariable, own_terms, OnOwnTerms, TypeOnOwnTerms, ImageOnOwnTerms, put_in_blocks}

-- The filling β gives the metavariables of Ψ terms on own terms.
abbrev pub ValuesOnOwnTerms : (ℕ → Option Spine) → (ℕ → Option LfType) → (ℕ → Option Term) → Type 0
ValuesOnOwnTerms o Ψ β = (m : ℕ) (A : LfType) (N : Term) → Ψ m ≡ Some A → β m ≡ Some N → OnOwnTerms o N

-- Each typed unifier of the store that is reached gives its new metavariables terms on own terms, where it gives the old ones such terms: the value
-- of a new metavariable is an old one's value, without the arguments that it lost.
abbrev pub NewValuesAreOnOwnTerms : Type 0
NewValuesAreOnOwnTerms = (Σ : Signature) → IsSignature Σ → (s s' : Store) → IsWellFormed Σ s → Run Σ s s' → (F : List LfType) (β : ℕ → Option Term) → Solution Σ [] s' F β → (o : ℕ → Option Spine) → ValuesOnOwnTerms o s.metavariables β → ValuesOnOwnTerms o s'.metavariables β

-- So a typed unifier on own terms extends to one on own terms along a run.
abbrev pub OwnTermsExtend : Type 0
OwnTermsExtend = (Σ : Signature) → IsSignature Σ → (s s' : Store) → IsWellFormed Σ s → Run Σ s s' → (F : List LfType) (β : ℕ → Option Term) → Solution Σ [] s F β → (o : ℕ → Option Spine) → ValuesOnOwnTerms o s.metavariables β → (β' : ℕ → Option Term) × ExtendsFilling s.metavariables β β' × Solution Σ [] s' F β' × ValuesOnOwnTerms o s'.metavariables β'

-- The filling β of Ψ comes from the answer of a solved store, whose metavariables have this order of dependency: it extends to a typed unifier of this
-- store on own terms, and put into the answer's values, its terms for the answer's free variables give β's. Their types are those of metavariables.
pub record ComesOnOwnTerms (Σ : Signature) (o : ℕ → Option Spine) (Ψ : ℕ → Option LfType) (after : Store) (order : List ListedMetavariable) (F : List LfType) (β : ℕ → Option Term) : Type 0 where
  pub filling : ℕ → Option Term
  pub extends : ExtendsFilling Ψ β filling
  pub solution : Solution Σ [] after F filling
  pub own_values : ValuesOnOwnTerms o after.metavariables filling
  pub images : ℕ → Image
  pub typed : IsTypedSubstitution Σ (free_context (skeletons_of after.metavariables) order) F images
  pub are_terms : (i : ℕ) (A : LfType) → TypeAt (free_context (skeletons_of after.metavariables) order) i A → (N : Term) × (images i ≡ put (skeleton A) N)
  pub on_own_terms : (i : ℕ) → ImageOnOwnTerms o (images i)
  pub types : (i : ℕ) (A : LfType) → TypeAt (free_context (skeletons_of after.metavariables) order) i A → (m : ℕ) × (B : LfType) × (after.metavariables m ≡ Some B) × (substitute_type reduce images A ≡ fill_type (skeletons_of after.metavariables) filling B)
  pub same : (m : ℕ) (A : LfType) → Ψ m ≡ Some A → (N : Term) × (values (skeletons_of after.metavariables) order m ≡ Some N) × (β m ≡ Some (substitute reduce images N))

-- Where unification solves, each typed unifier on own terms comes so.
abbrev pub SolvedComesOnOwnTerms : Type 0
SolvedComesOnOwnTerms = (Σ : Signature) → IsSignature Σ → (before after : Store) → IsWellFormed Σ before → (s : Solved Σ before after) → (F : List LfType) (β : ℕ → Option Term) → Solution Σ [] before F β → (o : ℕ → Option Spine) → ValuesOnOwnTerms o before.metavariables β → ComesOnOwnTerms Σ o before.metavariables after s.well_formed.order F β

-- A case's block variables have the answer's values α put into their terms. Where the values of the answer's free variables, ι, put into α are τ on the
-- case's variables, what is on the own terms of the answer's block variables is with ι put in on those that τ gives.
abbrev pub AnswerKeepsOwnTerms : Type 0
AnswerKeepsOwnTerms = (Σ : Signature) → IsSignature Σ → (first : ℕ) (W : List Block) (X O F : List LfType) (p : ℕ → Option Spine) (bs : List BlockVariable) → AreTypedBlockVariables Σ W X p bs → (α : ℕ → Image) → IsTypedSubstitution Σ X O α → (ι : ℕ → Image) → IsTypedSubstitution Σ O F ι → (τ : ℕ → Image) → ((i : ℕ) (A : LfType) → TypeAt X i A → τ i ≡ substitute_image ι (α i)) → ((i : ℕ) → ImageOnOwnTerms (own_terms first (put_in_blocks τ bs)) (ι i)) → (A : LfType) → TypeOnOwnTerms (own_terms first (put_in_blocks α bs)) A → TypeOnOwnTerms (own_terms first (put_in_blocks τ bs)) (substitute_type reduce ι A)
