-- The laws of elaboration that the functions of this crate carry.
use Rattle.std.specs.Prelude.{◌≡◌, ℕ, ◌≤◌, Bool, List, [], Option, Some, length, slice_get}
use Rattle.lf.specs.Entries.{Body, BodyIsTyped, Entry, body_quantifiers, declare_constant, declare_definition, declare_family, IsCanonicalSignature, signature_of}
use Rattle.lf.specs.Syntax.{Kind, LfType, Skeleton, Spine, Term, kind_skeleton, rename, rename_kind, rename_type, skeleton}
use Rattle.lf.specs.Typing.{HasType, IsContext, IsKind, IsSignature, IsType, Signature}
use Rattle.lf_elaboration.specs.Completions.{Completes, CompletesKind, CompletesType, FreeValue, FreesAreTyped}
use Rattle.lf_elaboration.specs.Elaboration.{Checks, ElaboratesDomain, ElaboratesFamily, ElaboratesKind, ElaboratesType, Infers, NewFrees}
use Rattle.lf_elaboration.specs.Kinds.{MetavariablesInKind, OpenIsKind, fill_kind, kind_over}
use Rattle.lf_elaboration.specs.Skeletons.{FamilyHasSkeletons, KindHasSkeletons, LocalHasSkeletons, StateHasSkeletons, TermHasSkeleton, TypeHasSkeletons}
use Rattle.lf_elaboration.specs.State.{State, nothing_yet, store_of}
use Rattle.lf_elaboration.specs.Written.{Written, WrittenDomain, WrittenKind, WrittenType}
use Rattle.lf_elaboration.specs.WrittenSkeletons.{AllDeclared, KindHasSkeleton, Stands, WrittenHasSkeleton, WrittenTypeHasSkeleton}
use Rattle.lf_unification.specs.Dependency.{ListedMetavariable, free_context, values}
use Rattle.lf_unification.specs.Filling.{fill, fill_type}
use Rattle.lf_unification.specs.Offering.{lambda_over, pi_over}
use Rattle.lf_unification.specs.OpenTyping.{Declares, MetavariablesIn, MetavariablesInType, OpenHasType, OpenIsType, skeletons_of}
use Rattle.lf_unification.specs.PartialInstance.{IsFilling}
use Rattle.lf_unification.specs.Patterns.{local_skeletons}
use Rattle.lf_unification.specs.Scope.{IsScoped}
use Rattle.lf_unification.specs.Solving.{IsWellFormed, Solved}
use Rattle.lf_unification.specs.Unifiers.{Solution, Store}

-- What is elaborated from nothing, its free variables first, leaves a well-formed store: typed up to its own fillings, and with an order of dependency.

-- Up to these fillings a type that was elaborated is a type, of declared metavariables and no variable.
pub record TypeIsMade (Σ : Signature) (s : State) (A : LfType) : Type 0 where
  pub well_formed : IsWellFormed Σ (store_of s)
  pub typed : OpenIsType Σ [] s.metavariables (IsFilling Σ [] (store_of s)) [] A
  pub declared : MetavariablesInType (Declares s.metavariables) A
  pub closed : (ρ : ℕ → ℕ) → rename_type ρ A ≡ A

abbrev pub ElaboratedTypeIsMade : Type 0
ElaboratedTypeIsMade = (es : List Entry) → IsCanonicalSignature es → (ts : List Skeleton) (frees : List ℕ) (s s' : State) (U : WrittenType) (A : LfType) → NewFrees es ts nothing_yet s frees → ElaboratesType es frees [] U s s' A → TypeIsMade (signature_of es) s' A

-- a term has its type
pub record TermIsMade (Σ : Signature) (s : State) (R : Term) (A : LfType) : Type 0 where
  pub of_type : TypeIsMade Σ s A
  pub typed : OpenHasType Σ [] s.metavariables (IsFilling Σ [] (store_of s)) [] R A
  pub declared : MetavariablesIn (Declares s.metavariables) R
  pub closed : (ρ : ℕ → ℕ) → rename ρ R ≡ R

-- a definition without its type
abbrev pub InferredTermIsMade : Type 0
InferredTermIsMade = (es : List Entry) → IsCanonicalSignature es → (ts : List Skeleton) (frees : List ℕ) (s s' : State) (M : Written) (R : Term) (A : LfType) → NewFrees es ts nothing_yet s frees → Infers es frees [] M s s' R A → TermIsMade (signature_of es) s' R A

-- a definition with its type
abbrev pub CheckedTermIsMade : Type 0
CheckedTermIsMade = (es : List Entry) → IsCanonicalSignature es → (ts : List Skeleton) (frees : List ℕ) (s s' s'' : State) (U : WrittenType) (M : Written) (R : Term) (A : LfType) → NewFrees es ts nothing_yet s frees → ElaboratesType es frees [] U s s' A → Checks es frees [] M A s' s'' R → TermIsMade (signature_of es) s'' R A

-- a kind, which a family is declared with
pub record KindIsMade (Σ : Signature) (s : State) (K : Kind) : Type 0 where
  pub well_formed : IsWellFormed Σ (store_of s)
  pub typed : OpenIsKind Σ s.metavariables (IsFilling Σ [] (store_of s)) [] K
  pub declared : MetavariablesInKind (Declares s.metavariables) K
  pub closed : (ρ : ℕ → ℕ) → rename_kind ρ K ≡ K

abbrev pub ElaboratedKindIsMade : Type 0
ElaboratedKindIsMade = (es : List Entry) → IsCanonicalSignature es → (ts : List Skeleton) (frees : List ℕ) (s s' : State) (k : WrittenKind) (K : Kind) → NewFrees es ts nothing_yet s frees → ElaboratesKind es frees [] k s s' K → KindIsMade (signature_of es) s' K

-- What is elaborated has skeletons, in any local context that has them, and the state behind has. So hereditary substitution is total on it.

-- with nothing made yet
abbrev pub NothingHasSkeletons : Type 0
NothingHasSkeletons = (es : List Entry) → IsCanonicalSignature es → StateHasSkeletons (signature_of es) nothing_yet × ((ts : List Skeleton) (frees : List ℕ) (s : State) → NewFrees es ts nothing_yet s frees → StateHasSkeletons (signature_of es) s)

-- the state behind has skeletons, and what was typed by skeletons in the local context still is
pub record StaysBySkeletons (Σ : Signature) (D : List LfType) (s s' : State) : Type 0 where
  pub state : StateHasSkeletons Σ s'
  pub local : LocalHasSkeletons Σ s' D
  pub next : s.next ≤ s'.next
  pub metavariables : (m : ℕ) (A : LfType) → s.metavariables m ≡ Some A → s'.metavariables m ≡ Some A
  pub types : (A : LfType) → TypeHasSkeletons Σ s D A → TypeHasSkeletons Σ s' D A

abbrev pub ElaboratedHasSkeletons : Type 0
ElaboratedHasSkeletons = (es : List Entry) → IsCanonicalSignature es → (frees : List ℕ) (D : List LfType) (s s' : State) → StateHasSkeletons (signature_of es) s → LocalHasSkeletons (signature_of es) s D →
    ((M : Written) (R : Term) (A : LfType) → Infers es frees D M s s' R A → StaysBySkeletons (signature_of es) D s s' × TermHasSkeleton (signature_of es) s' D R A × TypeHasSkeletons (signature_of es) s' D A)
    × ((M : Written) (A : LfType) (R : Term) → TypeHasSkeletons (signature_of es) s D A → Checks es frees D M A s s' R → StaysBySkeletons (signature_of es) D s s' × TermHasSkeleton (signature_of es) s' D R A)
    × ((U : WrittenType) (A : LfType) → ElaboratesType es frees D U s s' A → StaysBySkeletons (signature_of es) D s s' × TypeHasSkeletons (signature_of es) s' D A)
    × ((d : WrittenDomain) (A : LfType) → ElaboratesDomain es frees D d s s' A → StaysBySkeletons (signature_of es) D s s' × TypeHasSkeletons (signature_of es) s' D A)
    × ((U : WrittenType) (a : ℕ) (S : Spine) (L : Kind) → ElaboratesFamily es frees D U s s' a S L → StaysBySkeletons (signature_of es) D s s' × FamilyHasSkeletons (signature_of es) s' D a S L)
    × ((k : WrittenKind) (K : Kind) → ElaboratesKind es frees D k s s' K → StaysBySkeletons (signature_of es) D s s' × KindHasSkeletons (signature_of es) s' D K)

-- such a state mentions only declared metavariables, and no number from the next one on is declared
abbrev pub StateIsScoped : Type 0
StateIsScoped = (Σ : Signature) (s : State) → StateHasSkeletons Σ s → IsScoped s.metavariables s.next [] s.equations

-- Elaboration goes through just where what is written has a skeleton, and has one outcome.

-- the free variables of declared skeletons are made, and elaboration may go on from there
abbrev pub FreesAreMade : Type 0
FreesAreMade = (es : List Entry) → IsCanonicalSignature es → (ts : List Skeleton) →
    (AllDeclared es ts → (s : State) × (frees : List ℕ) × NewFrees es ts nothing_yet s frees)
    × ((s : State) (frees : List ℕ) → NewFrees es ts nothing_yet s frees → Stands es ts frees s [])

-- `ts` are the skeletons of the free variables, and `frees` their numbers
module _ (es : List Entry) (ts : List Skeleton) (frees : List ℕ) (D : List LfType) (s : State) where
  abbrev IsInferredTo : Written → Skeleton → Type 0
  IsInferredTo M t = (s' : State) × (R : Term) × (A : LfType) × Infers es frees D M s s' R A × (skeleton A ≡ t) × Stands es ts frees s' D

  abbrev IsCheckedTo : Written → LfType → Type 0
  IsCheckedTo M A = (s' : State) × (R : Term) × Checks es frees D M A s s' R × Stands es ts frees s' D

  abbrev IsTypeTo : WrittenType → Skeleton → Type 0
  IsTypeTo U t = (s' : State) × (A : LfType) × ElaboratesType es frees D U s s' A × (skeleton A ≡ t) × Stands es ts frees s' D

  abbrev IsKindTo : WrittenKind → ℕ → Skeleton → Type 0
  IsKindTo k a t = (s' : State) × (K : Kind) × ElaboratesKind es frees D k s s' K × (kind_skeleton a K ≡ t) × Stands es ts frees s' D

-- what has a skeleton is elaborated
abbrev pub SkeletonIsElaborated : Type 0
SkeletonIsElaborated = (es : List Entry) → IsCanonicalSignature es → (ts : List Skeleton) (frees : List ℕ) (D : List LfType) (s : State) → Stands es ts frees s D →
    ((M : Written) (t : Skeleton) → WrittenHasSkeleton es ts (local_skeletons D []) M t → IsInferredTo es ts frees D s M t)
    × ((M : Written) (A : LfType) → TypeHasSkeletons (signature_of es) s D A → WrittenHasSkeleton es ts (local_skeletons D []) M (skeleton A) → IsCheckedTo es ts frees D s M A)
    × ((U : WrittenType) (t : Skeleton) → WrittenTypeHasSkeleton es ts (local_skeletons D []) U t → IsTypeTo es ts frees D s U t)
    × ((k : WrittenKind) (a : ℕ) (t : Skeleton) → KindHasSkeleton es ts (local_skeletons D []) k a t → IsKindTo es ts frees D s k a t)

-- and what is elaborated has one
abbrev pub ElaboratedHadSkeleton : Type 0
ElaboratedHadSkeleton = (es : List Entry) → IsCanonicalSignature es → (ts : List Skeleton) (frees : List ℕ) (D : List LfType) (s s' : State) → Stands es ts frees s D →
    ((M : Written) (R : Term) (A : LfType) → Infers es frees D M s s' R A → WrittenHasSkeleton es ts (local_skeletons D []) M (skeleton A))
    × ((M : Written) (A : LfType) (R : Term) → TypeHasSkeletons (signature_of es) s D A → Checks es frees D M A s s' R → WrittenHasSkeleton es ts (local_skeletons D []) M (skeleton A))
    × ((U : WrittenType) (A : LfType) → ElaboratesType es frees D U s s' A → WrittenTypeHasSkeleton es ts (local_skeletons D []) U (skeleton A))
    × ((k : WrittenKind) (K : Kind) → ElaboratesKind es frees D k s s' K → (a : ℕ) → KindHasSkeleton es ts (local_skeletons D []) k a (kind_skeleton a K))

-- one outcome
abbrev pub ElaborationIsUnique : Type 0
ElaborationIsUnique = (es : List Entry) (frees : List ℕ) (D : List LfType) (s s' s'' : State) →
    ((M : Written) (R R' : Term) (A A' : LfType) → Infers es frees D M s s' R A → Infers es frees D M s s'' R' A' → (s' ≡ s'') × (R ≡ R') × (A ≡ A'))
    × ((M : Written) (A : LfType) (R R' : Term) → Checks es frees D M A s s' R → Checks es frees D M A s s'' R' → (s' ≡ s'') × (R ≡ R'))
    × ((U : WrittenType) (A A' : LfType) → ElaboratesType es frees D U s s' A → ElaboratesType es frees D U s s'' A' → (s' ≡ s'') × (A ≡ A'))
    × ((k : WrittenKind) (K K' : Kind) → ElaboratesKind es frees D k s s' K → ElaboratesKind es frees D k s s'' K' → (s' ≡ s'') × (K ≡ K'))
    × ((ts : List Skeleton) (ms ms' : List ℕ) → NewFrees es ts s s' ms → NewFrees es ts s s'' ms' → (s' ≡ s'') × (ms ≡ ms'))

-- Completions.

-- under the filling the free variables have these values, of these types
abbrev pub HasFreeValues : List ℕ → List FreeValue → (ℕ → Option LfType) → (ℕ → Option Term) → Type 0
HasFreeValues frees values Ψ β = (i m : ℕ) (v : FreeValue) → slice_get frees i ≡ Some m → slice_get values i ≡ Some v → (A : LfType) × (Ψ m ≡ Some A) × (β m ≡ Some v.term) × (fill_type (skeletons_of Ψ) β A ≡ v.of_type)

-- Each completion of what is written, in any context, is what a typed unifier of the store makes of what was elaborated. So no completion is lost.
abbrev pub CompletionIsInstance : Type 0
CompletionIsInstance = (es : List Entry) → IsCanonicalSignature es → (ts : List Skeleton) (frees : List ℕ) (s : State) → NewFrees es ts nothing_yet s frees → (F : List LfType) → IsContext (signature_of es) F → (values : List FreeValue) → FreesAreTyped es F ts values →
    ((s' : State) (U : WrittenType) (A X : LfType) → ElaboratesType es frees [] U s s' A → CompletesType es F values [] U X →
    (β : ℕ → Option Term) × Solution (signature_of es) [] (store_of s') F β × HasFreeValues frees values s'.metavariables β × (fill_type (skeletons_of s'.metavariables) β A ≡ X))
    × ((s' : State) (k : WrittenKind) (K X : Kind) → ElaboratesKind es frees [] k s s' K → CompletesKind es F values [] k X →
    (β : ℕ → Option Term) × Solution (signature_of es) [] (store_of s') F β × HasFreeValues frees values s'.metavariables β × (fill_kind (skeletons_of s'.metavariables) β K ≡ X))
    × ((s' : State) (M : Written) (R T : Term) (A X : LfType) → Infers es frees [] M s s' R A → Completes es F values [] M T X →
    (β : ℕ → Option Term) × Solution (signature_of es) [] (store_of s') F β × HasFreeValues frees values s'.metavariables β × (fill (skeletons_of s'.metavariables) β R ≡ T) × (fill_type (skeletons_of s'.metavariables) β A ≡ X))
    × ((s' s'' : State) (U : WrittenType) (M : Written) (R T : Term) (A X : LfType) → ElaboratesType es frees [] U s s' A → Checks es frees [] M A s' s'' R → CompletesType es F values [] U X → Completes es F values [] M T X →
    (β : ℕ → Option Term) × Solution (signature_of es) [] (store_of s'') F β × HasFreeValues frees values s''.metavariables β × (fill (skeletons_of s''.metavariables) β R ≡ T) × (fill_type (skeletons_of s''.metavariables) β A ≡ X))

-- And each typed unifier makes a completion; its values of the free variables are typed.
abbrev pub InstanceIsCompletion : Type 0
InstanceIsCompletion = (es : List Entry) → IsCanonicalSignature es → (ts : List Skeleton) (frees : List ℕ) (s : State) → NewFrees es ts nothing_yet s frees → (F : List LfType) (β : ℕ → Option Term) →
    ((s' : State) (U : WrittenType) (A : LfType) → ElaboratesType es frees [] U s s' A → Solution (signature_of es) [] (store_of s') F β →
    (values : List FreeValue) × FreesAreTyped es F ts values × HasFreeValues frees values s'.metavariables β × CompletesType es F values [] U (fill_type (skeletons_of s'.metavariables) β A))
    × ((s' : State) (k : WrittenKind) (K : Kind) → ElaboratesKind es frees [] k s s' K → Solution (signature_of es) [] (store_of s') F β →
    (values : List FreeValue) × FreesAreTyped es F ts values × HasFreeValues frees values s'.metavariables β × CompletesKind es F values [] k (fill_kind (skeletons_of s'.metavariables) β K))
    × ((s' : State) (M : Written) (R : Term) (A : LfType) → Infers es frees [] M s s' R A → Solution (signature_of es) [] (store_of s') F β →
    (values : List FreeValue) × FreesAreTyped es F ts values × HasFreeValues frees values s'.metavariables β × Completes es F values [] M (fill (skeletons_of s'.metavariables) β R) (fill_type (skeletons_of s'.metavariables) β A))
    × ((s' s'' : State) (U : WrittenType) (M : Written) (R : Term) (A : LfType) → ElaboratesType es frees [] U s s' A → Checks es frees [] M A s' s'' R → Solution (signature_of es) [] (store_of s'') F β →
    (values : List FreeValue) × FreesAreTyped es F ts values × HasFreeValues frees values s''.metavariables β × CompletesType es F values [] U (fill_type (skeletons_of s''.metavariables) β A) × Completes es F values [] M (fill (skeletons_of s''.metavariables) β R) (fill_type (skeletons_of s''.metavariables) β A))

-- What is solved.

-- where the equations are solved, the unbound metavariables in an order of dependency are a context, over which the type, filled, is one of LF
abbrev pub SolvedTypeIsTyped : Type 0
SolvedTypeIsTyped = (Σ : Signature) → IsSignature Σ → (s : State) (A : LfType) → TypeIsMade Σ s A → (after : Store) (w : Solved Σ (store_of s) after) →
    IsContext Σ (free_context (skeletons_of after.metavariables) w.well_formed.order)
    × IsType Σ (free_context (skeletons_of after.metavariables) w.well_formed.order) (fill_type (skeletons_of after.metavariables) (values (skeletons_of after.metavariables) w.well_formed.order) A)

-- and so is the term
abbrev pub SolvedTermIsTyped : Type 0
SolvedTermIsTyped = (Σ : Signature) → IsSignature Σ → (s : State) (R : Term) (A : LfType) → TermIsMade Σ s R A → (after : Store) (w : Solved Σ (store_of s) after) →
    HasType Σ (free_context (skeletons_of after.metavariables) w.well_formed.order) (fill (skeletons_of after.metavariables) (values (skeletons_of after.metavariables) w.well_formed.order) R) (fill_type (skeletons_of after.metavariables) (values (skeletons_of after.metavariables) w.well_formed.order) A)

-- and so the kind
abbrev pub SolvedKindIsTyped : Type 0
SolvedKindIsTyped = (Σ : Signature) → IsSignature Σ → (s : State) (K : Kind) → KindIsMade Σ s K → (after : Store) (w : Solved Σ (store_of s) after) →
    IsContext Σ (free_context (skeletons_of after.metavariables) w.well_formed.order)
    × IsKind Σ (free_context (skeletons_of after.metavariables) w.well_formed.order) (fill_kind (skeletons_of after.metavariables) (values (skeletons_of after.metavariables) w.well_formed.order) K)

-- What is declared then: the free metavariables are its implicit quantifiers. It is typed over the signature, and begins with as many quantifiers.
module _ (after : Store) (order : List ListedMetavariable) where
  abbrev pub declared_type : LfType → LfType
  declared_type A = pi_over (free_context (skeletons_of after.metavariables) order) (fill_type (skeletons_of after.metavariables) (values (skeletons_of after.metavariables) order) A)

  abbrev pub declared_term : Term → Term
  declared_term R = lambda_over (free_context (skeletons_of after.metavariables) order) (fill (skeletons_of after.metavariables) (values (skeletons_of after.metavariables) order) R)

  abbrev pub declared_kind : Kind → Kind
  declared_kind K = kind_over (free_context (skeletons_of after.metavariables) order) (fill_kind (skeletons_of after.metavariables) (values (skeletons_of after.metavariables) order) K)

  abbrev pub implicit_count : ℕ
  implicit_count = length (free_context (skeletons_of after.metavariables) order)

abbrev pub BodyMayStand : Signature → ℕ → Body → Type 0
BodyMayStand Σ n b = BodyIsTyped Σ b × (n ≤ body_quantifiers b)

abbrev pub SolvedBodyIsTyped : Type 0
SolvedBodyIsTyped = (Σ : Signature) → IsSignature Σ → (s : State) (after : Store) (w : Solved Σ (store_of s) after) →
    ((A : LfType) → TypeIsMade Σ s A → BodyMayStand Σ (implicit_count after w.well_formed.order) (declare_constant (declared_type after w.well_formed.order A)))
    × ((R : Term) (A : LfType) (b : Bool) → TermIsMade Σ s R A → BodyMayStand Σ (implicit_count after w.well_formed.order) (declare_definition (declared_term after w.well_formed.order R) (declared_type after w.well_formed.order A) b))
    × ((K : Kind) → KindIsMade Σ s K → BodyMayStand Σ (implicit_count after w.well_formed.order) (declare_family (declared_kind after w.well_formed.order K)))

-- A typed unifier of what was to be solved is one of the solved store, with the same terms in what was made. So each completion is an instance of
-- what is read off.
abbrev pub UnifierIsOfSolved : Type 0
UnifierIsOfSolved = (Σ : Signature) (s : State) (F : List LfType) (β : ℕ → Option Term) → Solution Σ [] (store_of s) F β → (after : Store) → Solved Σ (store_of s) after →
    (β' : ℕ → Option Term) × Solution Σ [] after F β'
    × ((A : LfType) → TypeIsMade Σ s A → fill_type (skeletons_of after.metavariables) β' A ≡ fill_type (skeletons_of s.metavariables) β A)
    × ((R : Term) (A : LfType) → TermIsMade Σ s R A → fill (skeletons_of after.metavariables) β' R ≡ fill (skeletons_of s.metavariables) β R)
    × ((K : Kind) → KindIsMade Σ s K → fill_kind (skeletons_of after.metavariables) β' K ≡ fill_kind (skeletons_of s.metavariables) β K)
