-- Principal completions: the most general way to fill what isn't written. This knows nothing of metavariables.
use Rattle.std.specs.Prelude.{◌≡◌, ℕ, ◌<◌, List, [], ◌∷◌, Bool}
use Rattle.lf.specs.Entries.{Body, Entry, declare_constant, declare_definition, declare_family, signature_of}
use Rattle.lf.specs.Substitution.{Image, keep, reduce, substitute, substitute_kind, substitute_type}
use Rattle.lf.specs.Syntax.{LfType, Skeleton, atom, pi}
use Rattle.lf.specs.Typing.{HasType, IsContext, IsKind, IsType, IsTypedRenaming, IsTypedSubstitution, Signature, TypeAt}
use Rattle.lf_elaboration.specs.Completions.{Completes, CompletesKind, CompletesType, FreeValue, FreesAreTyped}
use Rattle.lf_elaboration.specs.Kinds.{kind_over}
use Rattle.lf_elaboration.specs.Written.{Written, WrittenKind, WrittenType}
use Rattle.lf_unification.specs.Offering.{lambda_over, pi_over}
use Rattle.lf_unification.specs.Patterns.{FreeVariablesInSpine, LiftedSet}

-- What a declaration is written with: a family's kind; a constant's type; a definition's term, alone or with its type, and whether it is an abbreviation.
pub data WrittenBody : Type 0 where
  written_family : WrittenKind → WrittenBody
  written_constant : WrittenType → WrittenBody
  written_definition : Written → Bool → WrittenBody
  written_definition_of : Written → WrittenType → Bool → WrittenBody

-- The quantifiers that are implicit, the newest in front; in their scope what stands for the free variables, and the body.
pub record Completion : Type 0 where
  pub quantifiers : List LfType
  pub frees : List FreeValue
  pub body : Body

-- the body completes what is written, in the context F of the quantifiers
abbrev pub CompletesBody : List Entry → List LfType → List FreeValue → WrittenBody → Body → Type 0
CompletesBody es F frees (written_family k) (declare_family K) = CompletesKind es F frees [] k K
CompletesBody es F frees (written_constant U) (declare_constant A) = CompletesType es F frees [] U A
CompletesBody es F frees (written_definition M b) (declare_definition N A c) = (b ≡ c) × Completes es F frees [] M N A
CompletesBody es F frees (written_definition_of M U b) (declare_definition N A c) = (b ≡ c) × CompletesType es F frees [] U A × Completes es F frees [] M N A
CompletesBody es F frees _ _ = ⊥

-- a completion of what is written, whose free variables have the skeletons ts
pub record IsCompletion (es : List Entry) (ts : List Skeleton) (w : WrittenBody) (c : Completion) : Type 0 where
  pub context : IsContext (signature_of es) c.quantifiers
  pub frees_typed : FreesAreTyped es c.quantifiers ts c.frees
  pub completed : CompletesBody es c.quantifiers c.frees w c.body

-- a substitution put in
abbrev pub substitute_frees : (ℕ → Image) → List FreeValue → List FreeValue
substitute_frees σ [] = []
substitute_frees σ (v ∷ vs) = record { term = substitute reduce σ v.term; of_type = substitute_type reduce σ v.of_type } ∷ substitute_frees σ vs

abbrev pub substitute_body : (ℕ → Image) → Body → Body
substitute_body σ (declare_family K) = declare_family (substitute_kind reduce σ K)
substitute_body σ (declare_constant A) = declare_constant (substitute_type reduce σ A)
substitute_body σ (declare_definition N A b) = declare_definition (substitute reduce σ N) (substitute_type reduce σ A) b

-- The second completion is an instance of the first: typed terms for the quantifiers of the first make the second of it.
pub record IsInstanceOf (Σ : Signature) (c c' : Completion) : Type 0 where
  pub terms : ℕ → Image
  pub typed : IsTypedSubstitution Σ c.quantifiers c'.quantifiers terms
  pub frees : substitute_frees terms c.frees ≡ c'.frees
  pub body : substitute_body terms c.body ≡ c'.body

-- the body is typed in the context F
abbrev pub BodyIsTypedIn : Signature → List LfType → Body → Type 0
BodyIsTypedIn Σ F (declare_family K) = IsKind Σ F K
BodyIsTypedIn Σ F (declare_constant A) = IsType Σ F A
BodyIsTypedIn Σ F (declare_definition N A b) = IsType Σ F A × HasType Σ F N A

-- a typed completion of which each completion is an instance
pub record IsPrincipal (es : List Entry) (ts : List Skeleton) (w : WrittenBody) (c : Completion) : Type 0 where
  pub completion : IsCompletion es ts w c
  pub typed : BodyIsTypedIn (signature_of es) c.quantifiers c.body
  pub most_general : (c' : Completion) → IsCompletion es ts w c' → IsInstanceOf (signature_of es) c c'

-- the body closed over its quantifiers
abbrev pub body_over : List LfType → Body → Body
body_over F (declare_family K) = declare_family (kind_over F K)
body_over F (declare_constant A) = declare_constant (pi_over F A)
body_over F (declare_definition N A b) = declare_definition (lambda_over F N) (pi_over F A) b

-- The same context in another order: ρ takes each variable to its place there, and ρ' back; its type is renamed.
pub record IsReordering (F G : List LfType) (ρ ρ' : ℕ → ℕ) : Type 0 where
  pub there : IsTypedRenaming F G ρ
  pub back : IsTypedRenaming G F ρ'
  pub there_and_back : (i : ℕ) → ρ' (ρ i) ≡ i
  pub back_and_there : (j : ℕ) → ρ (ρ' j) ≡ j

-- the completion with the quantifiers G, at which ρ puts its own
abbrev pub reordered : List LfType → (ℕ → ℕ) → Completion → Completion
reordered G ρ c = record { quantifiers = G; frees = substitute_frees (λ i. keep (ρ i)) c.frees; body = substitute_body (λ i. keep (ρ i)) c.body }

-- each free variable of the type is in P
abbrev pub FreeVariablesInType : (ℕ → Type 0) → LfType → Type 0
FreeVariablesInType P (pi A B) = FreeVariablesInType P A × FreeVariablesInType (LiftedSet P) B
FreeVariablesInType P (atom a S) = FreeVariablesInSpine P S

-- ρ places each variable of F inside of those that its type mentions
abbrev pub PlacesInside : List LfType → (ℕ → ℕ) → Type 0
PlacesInside F ρ = (i : ℕ) (A : LfType) → TypeAt F i A → FreeVariablesInType (λ j. ρ i < ρ j) A
