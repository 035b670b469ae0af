-- What the store of a head says of ground instances: where the variable is this head, the values of the variables over
-- which the store stands are a typed unifier of it in the context, and of each store that unification comes to.
use Rattle.std.specs.Prelude.{◌≡◌, ℕ, ◌+◌, List, [], ◌∷◌, length, Bool, Option, Some, None}
use Rattle.lf.specs.Syntax.{Head, constant, variable, metavariable, Term, Spine, root, LfType, Kind, skeleton}
use Rattle.lf.specs.Substitution.{Image, put}
use Rattle.lf.specs.Eta.{lambdas}
use Rattle.lf.specs.Typing.{Signature, TypeAt, IsSignature}
use Rattle.lf.specs.Variables.{target}
use Rattle.lf.specs.Subordination.{Block, AreTypedBlocks, SelfContained}
use Rattle.lf.specs.Worlds.{World}
use Rattle.lf.specs.Extension.{Extends}
use Rattle.lf_checks.specs.Below.{IsSubordination}
use Rattle.lf_unification.specs.Steps.{Run}
use Rattle.lf_unification.specs.Unifiers.{Binding, Equation, Solution, Store}
use Rattle.lf_cases.specs.Case.{as_term}
use Rattle.lf_cases.specs.Reached.{arguments_count, taken}
use Rattle.lf_coverage.specs.Heads.{ArgumentsAreBelow}
use Rattle.lf_numbered.specs.EntryConstants.{IsFreeFrom}
use Rattle.lf_numbered.specs.EntryPatternsSplits.{HoldsAs}
use Rattle.lf_numbered.specs.NewInstance.{AreApart}
use Rattle.lf_numbered.specs.NumberedCallsOutside.{over_head, signature_of, store_of}
use Rattle.lf_numbered.specs.NumberedBeside.{TakesIn}
use Rattle.lf_numbered.specs.NumberedCase.{NumberedCase, IsNumberedInstance}
use Rattle.lf_numbered.specs.NumberedReached.{HoldsBack}
use Rattle.lf_numbered.specs.NumberedSplits.{IsOfferTo, NumberedOffer}
use Rattle.lf_numbered.specs.OwnTerms.{blocks_of}
use Rattle.lf_numbered.specs.Reading.{read, read_type, entry_reading}
use Rattle.lf_numbered.specs.TypedNumbered.{IsTypedNumberedCase}

-- An equation in the context of a ground instance, where θ has the instances of block variables: the constant of an
-- entry is read as the entry's variable. So X = b.y z, where b stands on z, is X = y there.
abbrev pub read_locals : ℕ → List Block → (ℕ → ℕ → Image) → List LfType → List LfType
read_locals first Bs θ [] = []
read_locals first Bs θ (A ∷ D) = read_type (entry_reading first Bs θ (length D)) A ∷ read_locals first Bs θ D

abbrev pub read_equation : ℕ → List Block → (ℕ → ℕ → Image) → Equation → Equation
read_equation first Bs θ e =
    let f : ℕ → Option (ℕ × ℕ) = entry_reading first Bs θ (length e.local) in
    record { local = read_locals first Bs θ e.local; left = read f e.left; right = read f e.right; of_type = read_type f e.of_type }

-- All equations of a store are read so, its bindings and the types of its metavariables.
abbrev pub read_equations : ℕ → List Block → (ℕ → ℕ → Image) → List Equation → List Equation
read_equations first Bs θ [] = []
read_equations first Bs θ (e ∷ es) = read_equation first Bs θ e ∷ read_equations first Bs θ es

abbrev pub read_bindings : ℕ → List Block → (ℕ → ℕ → Image) → List Binding → List Binding
read_bindings first Bs θ [] = []
read_bindings first Bs θ (b ∷ bs) = record { of = b.of; value = read (entry_reading first Bs θ 0) b.value } ∷ read_bindings first Bs θ bs

abbrev pub read_declared : (ℕ → Option (ℕ × ℕ)) → Option LfType → Option LfType
read_declared f None = None
read_declared f (Some A) = Some (read_type f A)

abbrev pub read_store : ℕ → List Block → (ℕ → ℕ → Image) → Store → Store
read_store first Bs θ s = record { metavariables = λ m. read_declared (entry_reading first Bs θ 0) (s.metavariables m); bindings = read_bindings first Bs θ s.bindings; equations = read_equations first Bs θ s.equations }

-- The head of an offer is read so, under n variables: b.y is y, and a constant of the signature stays.
abbrev pub read_head : Option (ℕ × ℕ) → ℕ → Head
read_head None c = constant c
read_head (Some (m, v)) c = variable v

abbrev pub head_in : ℕ → List Block → (ℕ → ℕ → Image) → ℕ → Head → Head
head_in first Bs θ n (constant c) = read_head (entry_reading first Bs θ n c) c
head_in first Bs θ n (variable i) = variable i
head_in first Bs θ n (metavariable m) = metavariable m

-- A ground instance of the case that a head is offered to, by θ and σ, gives its variable this head, on some arguments.
-- So x is the head b.x where b stands for the instance of x, and another y isn't (`OlderIsHead`).
abbrev pub HasHead : ℕ → NumberedOffer → (ℕ → ℕ → Image) → (ℕ → Image) → Type 0
HasHead first o θ σ = (T : Spine) × (σ o.variable ≡ put (skeleton o.type) (lambdas (length (taken o.type)) (root (head_in first (blocks_of o.case.blocks) θ (length (taken o.type)) o.head) T)))

-- The case with variables for the head's arguments in front is typed, and so is what an equation that is left is shown
-- over.
abbrev pub OverHeadIsTyped : Type 0
OverHeadIsTyped = (Σ : Signature) → IsSignature Σ → (W : List Block) → AreTypedBlocks Σ W → (first : ℕ) → IsFreeFrom Σ first → (below : ℕ → ℕ → Bool) (C : NumberedCase) → IsTypedNumberedCase Σ first W C → (x : ℕ) (X : LfType) → TypeAt C.variables x X → (o : NumberedOffer) → IsOfferTo Σ first W C x X o → (K : Kind) → Σ.kinds (target o.type) ≡ Some K → IsTypedNumberedCase Σ first W (over_head below o)

-- Values for the head's arguments too make a ground instance, which holds the same tuple; and with terms for the
-- metavariables that solving made they are a typed unifier of the store s in the context G.
pub record HeadUnifier {Σ : Signature} {W : List Block} {S : ℕ → Bool} {G : List LfType} (w : World Σ W S G) (first : ℕ) (below : ℕ → ℕ → Bool) (o : NumberedOffer) (θ : ℕ → ℕ → Image) (σ : ℕ → Image) (s : Store) : Type 0 where
  pub values : ℕ → Image
  pub is_ground : IsNumberedInstance w first (over_head below o) θ values
  pub keeps : (i : ℕ) (A : LfType) → TypeAt o.case.variables i A → values (i + arguments_count o.left) ≡ σ i
  pub holds : HoldsAs first o.case θ σ (over_head below o) θ values
  pub terms : ℕ → Option Term
  pub same : (i : ℕ) (A : LfType) → TypeAt (over_head below o).variables i A → terms i ≡ Some (as_term (skeleton A) (values i))
  pub unifier : Solution Σ G (read_store first (blocks_of o.case.blocks) θ s) G terms

-- So it is in each ground instance with block variables apart, in each legal extension and each context of the worlds,
-- that gives the variable a head that is offered; for the head's store, and for each that a run of steps reaches from
-- it.
abbrev pub HeadIsUnifier : Type 0
HeadIsUnifier = (Σ : Signature) → IsSignature Σ → (W : List Block) → AreTypedBlocks Σ W → (below : ℕ → ℕ → Bool) → IsSubordination Σ W below → (S : ℕ → Bool) → SelfContained Σ W S → (first : ℕ) → IsFreeFrom Σ first → (C : NumberedCase) → IsTypedNumberedCase Σ first W C → (x : ℕ) (X : LfType) → TypeAt C.variables x X → TakesIn S X → ArgumentsAreBelow below X → (o : NumberedOffer) → IsOfferTo Σ first W C x X o → ArgumentsAreBelow below o.left → (K : Kind) → Σ.kinds (target o.type) ≡ Some K → (s : Store) → Run (signature_of Σ first o) (store_of below o K) s → (Σ' : Signature) → Extends S Σ Σ' → (G : List LfType) (w : World Σ' W S G) (θ : ℕ → ℕ → Image) (σ : ℕ → Image) → IsNumberedInstance w first o.case θ σ → AreApart o.case θ → HasHead first o θ σ → HeadUnifier w first below o θ σ s

-- The other way round: a ground instance of the case with the head's arguments in front is one of the case that the
-- head is offered to; and where its values make the equations of the head's store true, this gives the variable the
-- head.
abbrev pub UnifierHasHead : Type 0
UnifierHasHead = (Σ : Signature) → IsSignature Σ → (W : List Block) → AreTypedBlocks Σ W → (below : ℕ → ℕ → Bool) (first : ℕ) → IsFreeFrom Σ first → (C : NumberedCase) → IsTypedNumberedCase Σ first W C → (x : ℕ) (X : LfType) → TypeAt C.variables x X → (o : NumberedOffer) → IsOfferTo Σ first W C x X o → (K : Kind) → Σ.kinds (target o.type) ≡ Some K → (S : ℕ → Bool) (Σ' : Signature) → Extends S Σ Σ' → (G : List LfType) (w : World Σ' W S G) (θ : ℕ → ℕ → Image) (τ : ℕ → Image) → IsNumberedInstance w first (over_head below o) θ τ → (β : ℕ → Option Term) → ((i : ℕ) (A : LfType) → TypeAt (over_head below o).variables i A → β i ≡ Some (as_term (skeleton A) (τ i))) → Solution Σ' G (read_store first (blocks_of o.case.blocks) θ (store_of below o K)) G β → (b : HoldsBack w first (over_head below o) θ τ o.case) × HasHead first o θ b.values
