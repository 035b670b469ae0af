-- Values read back: terms in a context F over the signature with entries, on own terms, become terms in a context G that has the entries as variables.
use Rattle.std.specs.Prelude.{◌≡◌, ℕ, zero, suc, List, [], ◌∷◌, length, Bool, Option, Some, None}
use Rattle.lf.specs.Syntax.{Term, Spine, LfType, Kind, Skeleton, skeleton, rename, rename_spine, rename_type}
use Rattle.lf.specs.SkeletonTyping.{SkeletonAt, TermSkeleton, SpineSkeleton}
use Rattle.lf.specs.Skeletons.{constant_skeletons, context_skeletons}
use Rattle.lf.specs.Substitution.{Image, keep, put, substitute, substitute_spine, substitute_image, substitute_type, reduce}
use Rattle.lf.specs.Typing.{Signature, TypeAt, HasType, SpineType, IsTypedSubstitution, IsType, IsContext, IsSignature}
use Rattle.lf.specs.Subordination.{Block}
use Rattle.lf.specs.Worlds.{World}
use Rattle.lf_unification.specs.Dependency.{ListedMetavariable, free_context, values}
use Rattle.lf_unification.specs.OpenTyping.{skeletons_of}
use Rattle.lf_unification.specs.Solving.{IsWellFormed, Solved}
use Rattle.lf_unification.specs.Unifiers.{Solution, Store}
use Rattle.lf_checks.specs.ModeForms.{argument_count}
use Rattle.lf_cases.specs.Case.{behind_entries}
use Rattle.lf_cases.specs.Cover.{InstanceIn}
use Rattle.lf_numbered.specs.EntryConstants.{EntryConstant, entry_constant, entry_constant_type, with_entries}
use Rattle.lf_numbered.specs.NumberedCase.{some_spine, AreTypedBlockVariables, AreGroundValues, AreInstances}
use Rattle.lf_numbered.specs.OwnTerms.{BlockVariable, OnOwnTerms, TypeOnOwnTerms, ImageOnOwnTerms, put_in_blocks}
use Rattle.lf_numbered.specs.OwnValues.{ValuesOnOwnTerms, ComesOnOwnTerms}
use Rattle.lf_numbered.specs.Reading.{read, read_spine, read_type, entry_reading}

-- The constant c of the entry e stands in F on its own terms, and is read as a variable that has in G the type that it has on these, read back.
pub record EntryReadsBack (Σ₁ : Signature) (F G : List LfType) (scope : List Skeleton) (f : ℕ → Option (ℕ × ℕ)) (o : ℕ → Option Spine) (ρ : ℕ → ℕ) (c : ℕ) (e : EntryConstant) : Type 0 where
  pub terms : Spine
  pub own : o c ≡ Some terms
  pub count : argument_count terms ≡ length e.block.some
  pub variable : ℕ
  pub is_read : f c ≡ Some (length e.block.some, variable)
  pub of_type : LfType
  pub typed : SpineType Σ₁ F terms (entry_constant_type e.from e.block.some e.before e.entry) of_type
  pub is_type : IsType Σ₁ F of_type
  pub of_own_type : TypeOnOwnTerms o of_type
  pub in_scope : SkeletonAt scope variable (skeleton of_type)
  pub stands : TypeAt G (ρ variable) (rename_type ρ (read_type f of_type))

-- Terms over F and the signature with the entries of the blocks Bs are read by f over F and the variables of entries, of whose skeletons `scope` has
-- those of F in front; and then renamed by ρ into G over Σ', which has what Σ has. The types of F are on own terms.
pub record ReadsBack (Σ Σ' : Signature) (first : ℕ) (Bs : List Block) (F G : List LfType) (f : ℕ → Option (ℕ × ℕ)) (o : ℕ → Option Spine) (ρ : ℕ → ℕ) : Type 0 where
  pub signature : IsSignature (with_entries Σ first Bs)
  pub types_stay : (c : ℕ) (A : LfType) → Σ.types c ≡ Some A → Σ'.types c ≡ Some A
  pub kinds_stay : (a : ℕ) (K : Kind) → Σ.kinds a ≡ Some K → Σ'.kinds a ≡ Some K
  pub source : IsContext (with_entries Σ first Bs) F
  pub on_own_terms : (i : ℕ) (A : LfType) → TypeAt F i A → TypeOnOwnTerms o A
  pub target : IsContext Σ' G
  pub scope : List Skeleton
  pub inside : (i : ℕ) (t : Skeleton) → SkeletonAt (context_skeletons F) i t → SkeletonAt scope i t
  pub fits : (i : ℕ) (t : Skeleton) → SkeletonAt scope i t → SkeletonAt (context_skeletons G) (ρ i) t
  pub variables : (i : ℕ) (A : LfType) → TypeAt F i A → TypeAt G (ρ i) (rename_type ρ (read_type f A))
  pub old : (c : ℕ) (A : LfType) → Σ.types c ≡ Some A → f c ≡ None
  pub entries : (c : ℕ) (e : EntryConstant) → entry_constant zero first Bs c ≡ Some e → EntryReadsBack (with_entries Σ first Bs) F G scope f o ρ c e

-- A term over F on own terms, read back, has its type, read back.
abbrev pub ReadBackKeepsTyping : Signature → Signature → List LfType → List LfType → (ℕ → Option (ℕ × ℕ)) → (ℕ → Option Spine) → (ℕ → ℕ) → Type 0
ReadBackKeepsTyping Σ₁ Σ' F G f o ρ = (A : LfType) → IsType Σ₁ F A → TypeOnOwnTerms o A → (N : Term) → HasType Σ₁ F N A → OnOwnTerms o N → HasType Σ' G (rename ρ (read f N)) (rename_type ρ (read_type f A))

abbrev pub ReadBackIsTyped : Type 0
ReadBackIsTyped = (Σ Σ' : Signature) → IsSignature Σ → IsSignature Σ' → (first : ℕ) (Bs : List Block) (F G : List LfType) (f : ℕ → Option (ℕ × ℕ)) (o : ℕ → Option Spine) (ρ : ℕ → ℕ) → ReadsBack Σ Σ' first Bs F G f o ρ → ReadBackKeepsTyping (with_entries Σ first Bs) Σ' F G f o ρ

-- f reads the constants of entries, and no others; θ has for each entry the variable that its constant is read as, in G.
pub record AreReadAs (first : ℕ) (Bs : List Block) (f : ℕ → Option (ℕ × ℕ)) (ρ : ℕ → ℕ) (θ : ℕ → ℕ → Image) : Type 0 where
  pub none : (c : ℕ) → entry_constant zero first Bs c ≡ None → f c ≡ None
  pub some : (c : ℕ) (e : EntryConstant) → entry_constant zero first Bs c ≡ Some e → (v : ℕ) × (f c ≡ Some (length e.block.some, v)) × (θ e.number e.place ≡ keep (ρ v))

-- The values σ of the free variables O are terms over F, of types on own terms, and on own terms.
pub record AreOwnValues (Σ₁ : Signature) (o : ℕ → Option Spine) (O F : List LfType) (σ : ℕ → Image) : Type 0 where
  pub typed : IsTypedSubstitution Σ₁ O F σ
  pub are_terms : (i : ℕ) (A : LfType) → TypeAt O i A → (N : Term) × (σ i ≡ put (skeleton A) N)
  pub on_own_terms : (i : ℕ) → ImageOnOwnTerms o (σ i)
  pub of_own_types : (i : ℕ) (A : LfType) → TypeAt O i A → TypeOnOwnTerms o (substitute_type reduce σ A)

-- What such values are read back as.
pub record AreReadBack (Σ₁ Σ' : Signature) (first : ℕ) (Bs : List Block) (θ : ℕ → ℕ → Image) (f : ℕ → Option (ℕ × ℕ)) (ρ : ℕ → ℕ) (O G : List LfType) (σ : ℕ → Image) : Type 0 where
  pub values : ℕ → Image
  pub ground : AreGroundValues Σ' G (entry_reading first Bs θ) O values
  pub is_read : (i : ℕ) (A : LfType) (N : Term) → TypeAt O i A → σ i ≡ put (skeleton A) N → values i ≡ put (skeleton A) (rename ρ (read f N))
  pub same : (M : Term) (t : Skeleton) → TermSkeleton (constant_skeletons Σ₁) (context_skeletons O) M t → substitute reduce values (read (entry_reading first Bs θ (length O)) M) ≡ rename ρ (read f (substitute reduce σ M))
  pub same_spine : (S : Spine) (t u : Skeleton) → SpineSkeleton (constant_skeletons Σ₁) (context_skeletons O) S t u → substitute_spine reduce values (read_spine (entry_reading first Bs θ (length O)) S) ≡ rename_spine ρ (read_spine f (substitute_spine reduce σ S))
  pub same_type : (A : LfType) → IsType Σ₁ O A → substitute_type reduce values (read_type (entry_reading first Bs θ (length O)) A) ≡ rename_type ρ (read_type f (substitute_type reduce σ A))

-- They are ground values, under which what is typed over O, by skeletons, has its value over F, read back.
abbrev pub ReadBackIsGround : Type 0
ReadBackIsGround = (Σ₁ Σ' : Signature) → IsSignature Σ₁ → (first : ℕ) (Bs : List Block) (F G : List LfType) (f : ℕ → Option (ℕ × ℕ)) (o : ℕ → Option Spine) (ρ : ℕ → ℕ) → IsContext Σ₁ F → ReadBackKeepsTyping Σ₁ Σ' F G f o ρ → (θ : ℕ → ℕ → Image) → AreReadAs first Bs f ρ θ → (O : List LfType) → IsContext Σ₁ O → (σ : ℕ → Image) → AreOwnValues Σ₁ o O F σ → AreReadBack Σ₁ Σ' first Bs θ f ρ O G σ

-- A typed unifier β of a solved store, on own terms in F: what the answer's free variables are read back as, and under these the answer's values of the
-- metavariables of Ψ are those of β, read back.
pub record SolvedReadBack (Σ₁ Σ' : Signature) (first : ℕ) (Bs : List Block) (θ : ℕ → ℕ → Image) (f : ℕ → Option (ℕ × ℕ)) (ρ : ℕ → ℕ) (Ψ : ℕ → Option LfType) (after : Store) (order : List ListedMetavariable) (F G : List LfType) (β : ℕ → Option Term) : Type 0 where
  pub images : ℕ → Image
  pub typed : IsTypedSubstitution Σ₁ (free_context (skeletons_of after.metavariables) order) F images
  pub back : AreReadBack Σ₁ Σ' first Bs θ f ρ (free_context (skeletons_of after.metavariables) order) G images
  pub same : (m : ℕ) (A : LfType) (V : Term) → Ψ m ≡ Some A → β m ≡ Some V → (N : Term) × (values (skeletons_of after.metavariables) order m ≡ Some N) × (V ≡ substitute reduce images N) × (substitute reduce back.values (read (entry_reading first Bs θ (length (free_context (skeletons_of after.metavariables) order))) N) ≡ rename ρ (read f V))

-- Where unification solves, each typed unifier on own terms is read back so, if the types of the answer's free variables are on own terms with its values
-- put in.
abbrev pub SolvedIsReadBack : Type 0
SolvedIsReadBack = (Σ₁ Σ' : Signature) → IsSignature Σ₁ → (first : ℕ) (Bs : List Block) (F G : List LfType) (f : ℕ → Option (ℕ × ℕ)) (o : ℕ → Option Spine) (ρ : ℕ → ℕ) → ReadBackKeepsTyping Σ₁ Σ' F G f o ρ → (θ : ℕ → ℕ → Image) → AreReadAs first Bs f ρ θ → (before after : Store) → IsWellFormed Σ₁ before → (s : Solved Σ₁ before after) → (β : ℕ → Option Term) → Solution Σ₁ [] before F β → ValuesOnOwnTerms o before.metavariables β → ((c : ComesOnOwnTerms Σ₁ o before.metavariables after s.well_formed.order F β) (i : ℕ) (A : LfType) → TypeAt (free_context (skeletons_of after.metavariables) s.well_formed.order) i A → TypeOnOwnTerms o (substitute_type reduce c.images A)) → SolvedReadBack Σ₁ Σ' first Bs θ f ρ before.metavariables after s.well_formed.order F G β

-- Each block variable has an instance in the context, with its `some` terms under the values τ, read back.
abbrev pub AreReadInstances : {Σ : Signature} {W : List Block} {S : ℕ → Bool} {G : List LfType} → World Σ W S G → (ℕ → Option (ℕ × ℕ)) → (ℕ → ℕ) → (ℕ → Image) → (ℕ → ℕ → Image) → ℕ → List BlockVariable → Type 0
AreReadInstances w f ρ τ θ k [] = Unit {0}
AreReadInstances w f ρ τ θ k (b ∷ bs) = InstanceIn w b.block (θ k) × (some_spine b.block.some (behind_entries b.block.entries (θ k)) ≡ rename_spine ρ (read_spine f (substitute_spine reduce τ b.terms))) × AreReadInstances w f ρ τ θ (suc k) bs

-- They are instances of the answer's block variables under the answer's free variables' values, read back, where these put into the answer's are τ.
abbrev pub InstancesAreReadBack : Type 0
InstancesAreReadBack = (Σ₁ Σ' : Signature) → IsSignature Σ₁ → (W V : List Block) (S : ℕ → Bool) (X O F G : List LfType) (w : World Σ' V S G) (first : ℕ) (Bs : List Block) (θ : ℕ → ℕ → Image) (f : ℕ → Option (ℕ × ℕ)) (ρ : ℕ → ℕ) (α ι τ : ℕ → Image) → IsTypedSubstitution Σ₁ X O α → IsTypedSubstitution Σ₁ O F ι → ((i : ℕ) (A : LfType) → TypeAt X i A → τ i ≡ substitute_image ι (α i)) → (r : AreReadBack Σ₁ Σ' first Bs θ f ρ O G ι) (p : ℕ → Option Spine) (bs : List BlockVariable) → AreTypedBlockVariables Σ₁ W X p bs → AreReadInstances w f ρ τ θ zero bs → AreInstances w (entry_reading first Bs θ (length O)) r.values θ zero (put_in_blocks α bs)
