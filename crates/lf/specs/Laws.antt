-- The laws of canonical LF that the functions of this crate carry.
use Rattle.std.specs.Prelude.{◌≡◌, ℕ, zero, suc, List, [], ◌∷◌, Option, Bool, true}
use Rattle.lf.specs.Syntax.{Head, variable, Term, Spine, root, LfType, Kind, Skeleton, base, skeleton, lift_renaming, rename_head, rename, rename_type, rename_kind}
use Rattle.lf.specs.Substitution.{Image, keep, rename_image, lift, single, substitute, substitute_type, substitute_kind, reduce, after}
use Rattle.lf.specs.Rules.{Substitutes, SubstitutesType, SubstitutesKind, Reduces}
use Rattle.lf.specs.SkeletonTyping.{HeadSkeletons, HeadSkeleton, TermSkeleton, SpineSkeleton, TypeBySkeletons, KindBySkeletons, SubstitutionBySkeletons, RenamingBySkeletons}
use Rattle.lf.specs.Skeletons.{constant_skeletons, family_skeletons, context_skeletons}
use Rattle.lf.specs.Typing.{Signature, TypeAt, HeadHasType, instantiate_type, HasType, SpineType, IsType, IsKind, IsContext, IsSignature, IsTypedRenaming, IsTypedSubstitution}
use Rattle.lf.specs.Variables.{target, FamiliesIn, Uses, IsTypedRenamingOn}
use Rattle.lf.specs.Eta.{eta_long, arity, lambdas, eta_arguments}
use Rattle.lf.specs.AtOnce.{shift_by, images_then_shift, body_under, spine_images}
use Rattle.lf.specs.Depth.{depth, type_depth, kind_depth}
use Rattle.lf.specs.Entries.{Entry, signature_of, IsCanonicalSignature}
use Rattle.lf.specs.Subordination.{Block, IsDeclared, AreTypedBlocks, SelfContained, IsBelowTest}
use Rattle.lf.specs.Extension.{Extends}
use Rattle.lf.specs.Worlds.{World}

-- Renaming.

-- one renaming after another is one renaming
abbrev pub RenamingsCompose : Type 0
RenamingsCompose = (ρ τ : ℕ → ℕ) (M : Term) → rename ρ (rename τ M) ≡ rename (λ i. ρ (τ i)) M

abbrev pub RenamedTypesCompose : Type 0
RenamedTypesCompose = (ρ τ : ℕ → ℕ) (A : LfType) → rename_type ρ (rename_type τ A) ≡ rename_type (λ i. ρ (τ i)) A

-- a term that is renamed and then substituted in is substituted in by the values at the new variables
abbrev pub RenamedIsSubstituted : Type 0
RenamedIsSubstituted = (σ : ℕ → Image) (ρ : ℕ → ℕ) (M : Term) → substitute reduce σ (rename ρ M) ≡ substitute reduce (λ i. σ (ρ i)) M

-- the result of a substitution is renamed by renaming the values
abbrev pub ResultIsRenamed : Type 0
ResultIsRenamed = (ρ : ℕ → ℕ) (σ : ℕ → Image) (M : Term) → rename ρ (substitute reduce σ M) ≡ substitute reduce (λ i. rename_image ρ (σ i)) M

-- renaming goes through the substitution for the newest variable
abbrev pub RenamingGoesThrough : Type 0
RenamingGoesThrough = (ρ : ℕ → ℕ) (a : Skeleton) (N M : Term) → rename ρ (substitute reduce (single a N) M) ≡ substitute reduce (single a (rename ρ N)) (rename (lift_renaming ρ) M)

-- renaming keeps depth and skeleton
abbrev pub RenamingKeepsShape : Type 0
RenamingKeepsShape = (ρ : ℕ → ℕ) → ((M : Term) → depth (rename ρ M) ≡ depth M) × ((A : LfType) → type_depth (rename_type ρ A) ≡ type_depth A) × ((K : Kind) → kind_depth (rename_kind ρ K) ≡ kind_depth K) × ((A : LfType) → skeleton (rename_type ρ A) ≡ skeleton A)

-- Hereditary substitution.

-- keeping each variable changes nothing, and a value for a variable that was just added is not used
abbrev pub NothingIsSubstituted : Type 0
NothingIsSubstituted = ((M : Term) → substitute reduce keep M ≡ M) × ((a : Skeleton) (N M : Term) → substitute reduce (single a N) (rename suc M) ≡ M)

-- what the rules derive, the functions give
abbrev pub RulesAgree : Type 0
RulesAgree = ((σ : ℕ → Image) (M R : Term) → Substitutes σ M R → R ≡ substitute reduce σ M) × ((a : Skeleton) (N R : Term) (S : Spine) → Reduces a N S R → R ≡ reduce a N S)

abbrev pub TypeRulesAgree : Type 0
TypeRulesAgree = ((σ : ℕ → Image) (A B : LfType) → SubstitutesType σ A B → B ≡ substitute_type reduce σ A) × ((σ : ℕ → Image) (K L : Kind) → SubstitutesKind σ K L → L ≡ substitute_kind reduce σ K)

-- so the rules derive one result at most
abbrev pub RulesAreFunctional : Type 0
RulesAreFunctional = (σ : ℕ → Image) (M R R' : Term) → Substitutes σ M R → Substitutes σ M R' → R ≡ R'

-- on skeleton-typed terms the rules derive what the functions give
abbrev pub RulesAreTotal : Type 0
RulesAreTotal = (κ : HeadSkeletons) (Γ Δ : List Skeleton) (σ : ℕ → Image) (M : Term) (t : Skeleton) → SubstitutionBySkeletons κ Γ Δ σ → TermSkeleton κ Γ M t → Substitutes σ M (substitute reduce σ M)

abbrev pub ReductionRulesAreTotal : Type 0
ReductionRulesAreTotal = (κ : HeadSkeletons) (Δ : List Skeleton) (a : Skeleton) (N : Term) (S : Spine) (c : ℕ) → TermSkeleton κ Δ N a → SpineSkeleton κ Δ S a (base c) → Reduces a N S (reduce a N S)

abbrev pub TypeRulesAreTotal : Type 0
TypeRulesAreTotal = (κ : HeadSkeletons) (φ : ℕ → Option Skeleton) (Γ Δ : List Skeleton) (σ : ℕ → Image) → SubstitutionBySkeletons κ Γ Δ σ → ((A : LfType) → TypeBySkeletons φ κ Γ A → SubstitutesType σ A (substitute_type reduce σ A)) × ((K : Kind) → KindBySkeletons φ κ Γ K → SubstitutesKind σ K (substitute_kind reduce σ K))

-- a substitution keeps skeletons
abbrev pub SubstitutionKeepsSkeletons : Type 0
SubstitutionKeepsSkeletons = (κ : HeadSkeletons) (Γ Δ : List Skeleton) (σ : ℕ → Image) (M : Term) (t : Skeleton) → SubstitutionBySkeletons κ Γ Δ σ → TermSkeleton κ Γ M t → TermSkeleton κ Δ (substitute reduce σ M) t

-- one substitution after another is the substitution of the substituted values
abbrev pub SubstitutionsCompose : Type 0
SubstitutionsCompose = (κ : HeadSkeletons) (Γ Γ' Δ : List Skeleton) (σ τ : ℕ → Image) (M : Term) (t : Skeleton) → SubstitutionBySkeletons κ Γ Γ' σ → SubstitutionBySkeletons κ Γ' Δ τ → TermSkeleton κ Γ M t → substitute reduce τ (substitute reduce σ M) ≡ substitute reduce (after τ σ) M

-- so a substitution goes through the substitution for the newest variable
abbrev pub SubstitutionGoesThrough : Type 0
SubstitutionGoesThrough = (κ : HeadSkeletons) (Γ Δ : List Skeleton) (τ : ℕ → Image) (a : Skeleton) (N M : Term) (t : Skeleton) → SubstitutionBySkeletons κ Γ Δ τ → TermSkeleton κ Γ N a → TermSkeleton κ (a ∷ Γ) M t → substitute reduce τ (substitute reduce (single a N) M) ≡ substitute reduce (single a (substitute reduce τ N)) (substitute reduce (lift τ) M)

-- a term applied to its arguments one by one is its body with all of them put in at once
abbrev pub ReductionAtOnce : Type 0
ReductionAtOnce = (κ : HeadSkeletons) (Γ Δ : List Skeleton) (l : ℕ) (t : Skeleton) (N : Term) (S : Spine) (c : ℕ) → RenamingBySkeletons Γ Δ (shift_by l) → TermSkeleton κ Γ N t → SpineSkeleton κ Δ S t (base c) → reduce t (rename (shift_by l) N) S ≡ substitute reduce (images_then_shift (spine_images t S []) l) (body_under S N)

-- Eta-long forms.

-- an eta-long head takes a spine as the head does, and has the head's skeleton; what is put in for an eta-long variable is the result
abbrev pub EtaLongIsTheHead : Type 0
EtaLongIsTheHead = (κ : HeadSkeletons) (a : Skeleton) (Δ : List Skeleton) → ((h : Head) → HeadSkeleton κ Δ h a → TermSkeleton κ Δ (eta_long a h) a) × ((h : Head) (T : Spine) (c : ℕ) → SpineSkeleton κ Δ T a (base c) → reduce a (eta_long a h) T ≡ root h T) × ((N : Term) → TermSkeleton κ Δ N a → substitute reduce (single a N) (eta_long a (variable zero)) ≡ N)

-- all lambdas at once, over the head applied to all their variables
abbrev pub EtaLongAtOnce : Type 0
EtaLongAtOnce = (a : Skeleton) (h : Head) → eta_long a h ≡ lambdas (arity a) (root (rename_head (shift_by (arity a)) h) (eta_arguments a))

-- the eta-long form of a head has the head's type
abbrev pub EtaLongHasType : Type 0
EtaLongHasType = (Σ : Signature) → IsSignature Σ → (G : List LfType) (h : Head) (A : LfType) → IsContext Σ G → HeadHasType Σ G h A → HasType Σ G (eta_long (skeleton A) h) A

-- Typing.

-- what is typed has the skeleton of its type
abbrev pub TypedHasSkeleton : Type 0
TypedHasSkeleton = (Σ : Signature) (G : List LfType) → ((M : Term) (A : LfType) → HasType Σ G M A → TermSkeleton (constant_skeletons Σ) (context_skeletons G) M (skeleton A)) × ((A : LfType) → IsType Σ G A → TypeBySkeletons (family_skeletons Σ) (constant_skeletons Σ) (context_skeletons G) A) × ((K : Kind) → IsKind Σ G K → KindBySkeletons (family_skeletons Σ) (constant_skeletons Σ) (context_skeletons G) K)

-- weakening: a renaming of one context into another keeps typing
abbrev pub RenamingKeepsTyping : Type 0
RenamingKeepsTyping = (Σ : Signature) → IsSignature Σ → (G D : List LfType) (ρ : ℕ → ℕ) → IsTypedRenaming G D ρ → ((M : Term) (A : LfType) → HasType Σ G M A → HasType Σ D (rename ρ M) (rename_type ρ A)) × ((A : LfType) → IsType Σ G A → IsType Σ D (rename_type ρ A)) × ((K : Kind) → IsKind Σ G K → IsKind Σ D (rename_kind ρ K))

-- the substitution theorem
abbrev pub SubstitutionKeepsTyping : Type 0
SubstitutionKeepsTyping = (Σ : Signature) → IsSignature Σ → (G D : List LfType) (σ : ℕ → Image) → IsContext Σ G → IsContext Σ D → IsTypedSubstitution Σ G D σ → ((M : Term) (A : LfType) → IsType Σ G A → HasType Σ G M A → HasType Σ D (substitute reduce σ M) (substitute_type reduce σ A)) × ((A : LfType) → IsType Σ G A → IsType Σ D (substitute_type reduce σ A)) × ((K : Kind) → IsKind Σ G K → IsKind Σ D (substitute_kind reduce σ K))

-- for the newest variable: by the rules there is just one result, and it is typed
abbrev pub InstanceIsTyped : Type 0
InstanceIsTyped = (Σ : Signature) → IsSignature Σ → (G : List LfType) (A : LfType) (N M : Term) (B : LfType) → IsContext Σ G → IsType Σ G A → IsType Σ (A ∷ G) B → HasType Σ G N A → HasType Σ (A ∷ G) M B → (R : Term) × Substitutes (single (skeleton A) N) M R × HasType Σ G R (instantiate_type A N B) × ((R' : Term) → Substitutes (single (skeleton A) N) M R' → R' ≡ R)

-- a typed term applied to a typed spine is typed
abbrev pub ReductionKeepsTyping : Type 0
ReductionKeepsTyping = (Σ : Signature) → IsSignature Σ → (D : List LfType) (N : Term) (S : Spine) (A C : LfType) → IsContext Σ D → IsType Σ D A → HasType Σ D N A → SpineType Σ D S A C → HasType Σ D (reduce (skeleton A) N S) C

-- the type of a typed root is a type, and the only one
abbrev pub RootHasOneType : Type 0
RootHasOneType = (Σ : Signature) → IsSignature Σ → (G : List LfType) (h : Head) (S : Spine) (A : LfType) → IsContext Σ G → HasType Σ G (root h S) A → IsType Σ G A × ((B : LfType) → HasType Σ G (root h S) B → A ≡ B)

abbrev pub TypingIsDecidable : Type 0
TypingIsDecidable = (Σ : Signature) (G : List LfType) → ((M : Term) (A : LfType) → Dec (HasType Σ G M A)) × ((A : LfType) → Dec (IsType Σ G A)) × ((K : Kind) → Dec (IsKind Σ G K)) × Dec (IsContext Σ G)

-- strengthening: a term that uses only the variables of U is typed in a context that has these alone
abbrev pub StrengtheningKeepsTyping : Type 0
StrengtheningKeepsTyping = (Σ : Signature) → IsSignature Σ → (U : ℕ → Bool) (G D : List LfType) (ρ : ℕ → ℕ) (M : Term) (A : LfType) → IsTypedRenamingOn U G D ρ → Uses U M → HasType Σ G M A → HasType Σ D (rename ρ M) (rename_type ρ A)

-- Signatures, worlds and legal extensions.

-- canonical LF is well formed over the whole of itself
abbrev pub CanonicalIsSignature : Type 0
CanonicalIsSignature = (es : List Entry) → IsCanonicalSignature es → IsSignature (signature_of es)

-- the families below a declared family are self-contained
abbrev pub BelowIsSelfContained : Type 0
BelowIsSelfContained = (Σ : Signature) (W : List Block) (S : ℕ → Bool) (f : ℕ) → IsSignature Σ → AreTypedBlocks Σ W → IsDeclared Σ f → IsBelowTest Σ W S f → SelfContained Σ W S

-- what is typed stays typed in a legal extension
abbrev pub ExtensionKeepsTyping : Type 0
ExtensionKeepsTyping = (S : ℕ → Bool) (Σ Σ' : Signature) → Extends S Σ Σ' → (G : List LfType) → ((M : Term) (A : LfType) → HasType Σ G M A → HasType Σ' G M A) × ((A : LfType) → IsType Σ G A → IsType Σ' G A)

-- a context of worlds is a context
abbrev pub WorldIsContext : Type 0
WorldIsContext = (Σ : Signature) (W : List Block) (S : ℕ → Bool) (G : List LfType) → World Σ W S G → IsContext Σ G

-- what is typed within a self-contained set over a legal extension, in a context of worlds, is typed over the first signature
abbrev pub ExtensionIsConservative : Type 0
ExtensionIsConservative = (Σ Σ' : Signature) (W : List Block) (S : ℕ → Bool) → Extends S Σ Σ' → SelfContained Σ W S → (G : List LfType) → World Σ' W S G → (M : Term) (A : LfType) → FamiliesIn S A → HasType Σ' G M A → HasType Σ G M A

-- such a term uses only variables whose families are in the set
abbrev pub VariablesAreWithin : Type 0
VariablesAreWithin = (Σ Σ' : Signature) (W : List Block) (S T : ℕ → Bool) → ((f : ℕ) → T f ≡ true → S f ≡ true) → SelfContained Σ W T → Extends S Σ Σ' → (G : List LfType) → World Σ' W S G → (U : ℕ → Bool) → ((i : ℕ) (A : LfType) → TypeAt G i A → T (target A) ≡ true → U i ≡ true) → (M : Term) (A : LfType) → FamiliesIn T A → HasType Σ' G M A → Uses U M
