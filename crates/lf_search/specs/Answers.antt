-- Answers over a goal, and what is read off a leaf of its search.
use Rattle.std.specs.Prelude.{◌≡◌, ℕ, zero, suc, ◌≤◌, List, [], ◌∷◌, length, Option, Some, None}
use Rattle.lf.specs.Substitution.{Image, keep, put, reduce, substitute, substitute_type}
use Rattle.lf.specs.Syntax.{LfType, Term, skeleton}
use Rattle.lf.specs.Typing.{HasType, IsContext, IsTypedRenaming, IsTypedSubstitution, Signature}
use Rattle.lf_unification.specs.Dependency.{IsDependencyOrder, IsListed, ListedMetavariable, free_context, values}
use Rattle.lf_unification.specs.Filling.{moved}
use Rattle.lf_unification.specs.OpenTyping.{skeletons_of}
use Rattle.lf_unification.specs.PartialInstance.{IsFilling}
use Rattle.lf_unification.specs.Putting.{Unbound}
use Rattle.lf_unification.specs.Search.{Node}
use Rattle.lf_unification.specs.Solving.{ValuesAreBindings}
use Rattle.lf_unification.specs.Unifiers.{Binding}

-- terms for the variables of a context, the newest in front
abbrev pub images : List LfType → List Term → ℕ → Image
images [] Ms i = keep i
images (A ∷ G) [] i = keep i
images (A ∷ G) (M ∷ Ms) zero = put (skeleton A) M
images (A ∷ G) (M ∷ Ms) (suc i) = images G Ms i

-- a type in the context, with these terms put in
abbrev pub at_values : List LfType → List Term → LfType → LfType
at_values G Ms A = substitute_type reduce (images G Ms) A

-- one term for each variable, of its type with the terms before put in
abbrev pub AreTypedValues : Signature → List LfType → List LfType → List Term → Type 0
AreTypedValues Σ F [] [] = Unit {0}
AreTypedValues Σ F [] (M ∷ Ms) = ⊥
AreTypedValues Σ F (A ∷ G) [] = ⊥
AreTypedValues Σ F (A ∷ G) (M ∷ Ms) = AreTypedValues Σ F G Ms × HasType Σ F M (at_values G Ms A)

-- An answer of the goal A over the context G: a context of free variables, values of the goal's variables that are typed in it, and a proof
-- of the goal under them. An answer of `plus X (s z) Z`, over X and Z, has a free variable x, the values x and s x, and a proof.
pub record IsAnswerOf (Σ : Signature) (G : List LfType) (A : LfType) (F : List LfType) (Ms : List Term) (proof : Term) : Type 0 where
  pub context : IsContext Σ F
  pub values_typed : AreTypedValues Σ F G Ms
  pub proves : HasType Σ F proof (at_values G Ms A)

-- each term with σ put in
abbrev pub substitute_all : (ℕ → Image) → List Term → List Term
substitute_all σ [] = []
substitute_all σ (M ∷ Ms) = substitute reduce σ M ∷ substitute_all σ Ms

-- Closed values and a proof are an instance of an answer: they are the answer's under typed values of its free variables.
pub record IsInstanceOfAnswer (Σ : Signature) (F : List LfType) (Ms : List Term) (proof : Term) (Ns : List Term) (closed : Term) : Type 0 where
  pub free_values : ℕ → Image
  pub typed : IsTypedSubstitution Σ F [] free_values
  pub same_values : Ns ≡ substitute_all free_values Ms
  pub same_proof : closed ≡ substitute reduce free_values proof

-- a listed metavariable without a value is not bound
abbrev pub FreeAreUnbound : List Binding → List ListedMetavariable → Type 0
FreeAreUnbound bs [] = Unit {0}
FreeAreUnbound bs (it ∷ is) = (it.value ≡ None → Unbound bs it.of) × FreeAreUnbound bs is

-- the values of the metavariables that stand for the variables of a context
abbrev pub AreValuesOf : (ℕ → Option Term) → List LfType → List Term → Type 0
AreValuesOf β [] [] = Unit {0}
AreValuesOf β [] (M ∷ Ms) = ⊥
AreValuesOf β (A ∷ G) [] = ⊥
AreValuesOf β (A ∷ G) (M ∷ Ms) = (β (length G) ≡ Some M) × AreValuesOf β G Ms

-- The same context in another order: ρ takes each variable to its place there, and ρ' back; its type is renamed.
pub record IsReordering (F F' : List LfType) (ρ ρ' : ℕ → ℕ) : Type 0 where
  pub there : IsTypedRenaming F F' ρ
  pub back : IsTypedRenaming F' F ρ'
  pub there_and_back : (i : ℕ) → ρ' (ρ i) ≡ i
  pub back_and_there : (j : ℕ) → ρ (ρ' j) ≡ j

-- What is read off a leaf. Some of its metavariables are listed in an order of dependency: those of the query, and those that these need. The
-- free ones among them become the variables of a context, and what is bound has its value filled. The context may have any other order that its
-- types allow: with B := [x] z and the free metavariables X : nat and Y : c (B X), Y may stand outside of X, since its type is c z then.
pub record IsReadOffLeaf (Σ : Signature) (G : List LfType) (l : Node) (F : List LfType) (Ms : List Term) (proof : Term) : Type 0 where
  pub order : List ListedMetavariable
  pub is_order : IsDependencyOrder Σ l.store.metavariables (IsFilling Σ [] l.store) order
  pub all_listed : (m : ℕ) → m ≤ length G → IsListed order m
  pub values_bound : ValuesAreBindings l.store.bindings order
  pub free_unbound : FreeAreUnbound l.store.bindings order
  pub there : ℕ → ℕ
  pub back : ℕ → ℕ
  pub reordered : IsReordering (free_context (skeletons_of l.store.metavariables) order) F there back
  pub values_of : AreValuesOf (moved there (values (skeletons_of l.store.metavariables) order)) G Ms
  pub proof_of : moved there (values (skeletons_of l.store.metavariables) order) (length G) ≡ Some proof
