-- The laws of principal completions that functions of this crate carry.
use Rattle.std.specs.Prelude.{◌≡◌, ℕ, List, [], length, Option, Some, None}
use Rattle.lf.specs.Entries.{Body, Entry, IsCanonicalSignature, declare_constant, declare_definition, declare_family, signature_of}
use Rattle.lf.specs.Subordination.{Member}
use Rattle.lf.specs.Syntax.{LfType, Skeleton, Term, skeleton}
use Rattle.lf.specs.Typing.{Signature, TypeAt}
use Rattle.lf_elaboration.specs.Completions.{FreeValue}
use Rattle.lf_elaboration.specs.Elaboration.{Checks, ElaboratesKind, ElaboratesType, Infers, NewFrees}
use Rattle.lf_elaboration.specs.Kinds.{fill_kind}
use Rattle.lf_elaboration.specs.Laws.{BodyMayStand, HasFreeValues}
use Rattle.lf_elaboration.specs.Principal.{Completion, IsCompletion, IsPrincipal, IsReordering, PlacesInside, WrittenBody, body_over, reordered, written_constant, written_definition, written_definition_of, written_family}
use Rattle.lf_elaboration.specs.State.{State, nothing_yet, store_of}
use Rattle.lf_unification.specs.Dependency.{free_context, values}
use Rattle.lf_unification.specs.Filling.{fill, fill_type}
use Rattle.lf_unification.specs.OpenTyping.{skeletons_of}
use Rattle.lf_unification.specs.Patterns.{beyond, eta_variable}
use Rattle.lf_unification.specs.Solving.{Never, Solved}
use Rattle.lf_unification.specs.Unifiers.{Solution, Store}

-- what is written, as an open body
abbrev pub ElaboratesBody : List Entry → List ℕ → WrittenBody → State → State → Body → Type 0
ElaboratesBody es frees (written_family k) s s' (declare_family K) = ElaboratesKind es frees [] k s s' K
ElaboratesBody es frees (written_constant U) s s' (declare_constant A) = ElaboratesType es frees [] U s s' A
ElaboratesBody es frees (written_definition M b) s s' (declare_definition R A c) = (b ≡ c) × Infers es frees [] M s s' R A
ElaboratesBody es frees (written_definition_of M U b) s s' (declare_definition R A c) = (b ≡ c) × (s₁ : State) × ElaboratesType es frees [] U s s₁ A × Checks es frees [] M A s₁ s' R
ElaboratesBody es frees _ s s' _ = ⊥

-- a filling put in
abbrev pub fill_body : (ℕ → Skeleton) → (ℕ → Option Term) → Body → Body
fill_body μ β (declare_family K) = declare_family (fill_kind μ β K)
fill_body μ β (declare_constant A) = declare_constant (fill_type μ β A)
fill_body μ β (declare_definition R A b) = declare_definition (fill μ β R) (fill_type μ β A) b

-- THE law: what is read off a solved store is a principal completion; its quantifiers are the metavariables that stay free.
abbrev pub ReadOffIsPrincipal : Type 0
ReadOffIsPrincipal = (es : List Entry) → IsCanonicalSignature es → (ts : List Skeleton) (frees : List ℕ) (s s' : State) → NewFrees es ts nothing_yet s frees → (w : WrittenBody) (b : Body) → ElaboratesBody es frees w s s' b → (after : Store) (z : Solved (signature_of es) (store_of s') after) →
    (vs : List FreeValue) × HasFreeValues frees vs after.metavariables (values (skeletons_of after.metavariables) z.well_formed.order)
    × IsPrincipal es ts w (record { quantifiers = free_context (skeletons_of after.metavariables) z.well_formed.order; frees = vs; body = fill_body (skeletons_of after.metavariables) (values (skeletons_of after.metavariables) z.well_formed.order) b })

-- And where the store has no typed unifier, there is no completion.
abbrev pub NeverHasNoCompletion : Type 0
NeverHasNoCompletion = (es : List Entry) → IsCanonicalSignature es → (ts : List Skeleton) (frees : List ℕ) (s s' : State) → NewFrees es ts nothing_yet s frees → (w : WrittenBody) (b : Body) → ElaboratesBody es frees w s s' b → Never (signature_of es) [] (store_of s') → (c : Completion) → IsCompletion es ts w c → ⊥

-- In another order of its quantifiers a principal completion is principal as well.
abbrev pub ReorderedIsPrincipal : Type 0
ReorderedIsPrincipal = (es : List Entry) → IsCanonicalSignature es → (ts : List Skeleton) (frees : List ℕ) (s s' : State) → NewFrees es ts nothing_yet s frees → (w : WrittenBody) (b : Body) → ElaboratesBody es frees w s s' b → (after : Store) → Solved (signature_of es) (store_of s') after →
    (c : Completion) → IsPrincipal es ts w c → (G : List LfType) (ρ ρ' : ℕ → ℕ) → IsReordering c.quantifiers G ρ ρ' → IsPrincipal es ts w (reordered G ρ c)

-- Any order in which each quantifier stands inside of those that its type mentions is such an order.
abbrev pub ContextIsReordered : Type 0
ContextIsReordered = (F : List LfType) (ρ ρ' : ℕ → ℕ) → ((i : ℕ) → ρ' (ρ i) ≡ i) → ((j : ℕ) → ρ (ρ' j) ≡ j) → ((i : ℕ) → ρ (beyond F i) ≡ beyond F i) → PlacesInside F ρ → (G : List LfType) × IsReordering F G ρ ρ'

-- No quantifier that is read off is superfluous: each is what stands for a metavariable that stays free,
abbrev pub QuantifiersAreUndetermined : Type 0
QuantifiersAreUndetermined = (Σ : Signature) (before after : Store) (z : Solved Σ before after) → (x : ℕ) (A : LfType) → TypeAt (free_context (skeletons_of after.metavariables) z.well_formed.order) x A →
    (m : ℕ) × (B : LfType) × Member (record { of = m; of_type = B; value = None }) z.well_formed.order × (values (skeletons_of after.metavariables) z.well_formed.order m ≡ Some (eta_variable (skeleton A) x))

-- and what a typed unifier has for the metavariables that solving began with determines what it has for all.
abbrev pub GivenDetermineAll : Type 0
GivenDetermineAll = (Σ : Signature) (before after : Store) → Solved Σ before after → (F : List LfType) (β β' : ℕ → Option Term) → Solution Σ [] after F β → Solution Σ [] after F β' →
    ((m : ℕ) (A : LfType) → before.metavariables m ≡ Some A → β m ≡ β' m) → (m : ℕ) (A : LfType) → after.metavariables m ≡ Some A → β m ≡ β' m

-- What is declared of a principal completion is typed, and begins with its quantifiers.
abbrev pub PrincipalMayStand : Type 0
PrincipalMayStand = (es : List Entry) (ts : List Skeleton) (w : WrittenBody) (c : Completion) → IsPrincipal es ts w c → BodyMayStand (signature_of es) (length c.quantifiers) (body_over c.quantifiers c.body)
