-- The partial proof of a node stands apart: nothing else mentions a hole. So unification can't fill one.
use Rattle.std.specs.Prelude.{◌≡◌, ℕ, List, [], ◌∷◌, Bool, true, false}
use Rattle.lf.specs.Subordination.{Member}
use Rattle.lf.specs.Syntax.{LfType}
use Rattle.std.specs.Prelude.{Some}
use Rattle.lf_unification.specs.OpenTyping.{Declares, MetavariablesIn, MetavariablesInType}
use Rattle.lf_unification.specs.Putting.{Unbound}
use Rattle.lf_unification.specs.Scope.{MetavariablesInEquationTypes, MetavariablesInEquations}
use Rattle.lf_unification.specs.Search.{Node}
use Rattle.lf_unification.specs.Unifiers.{Binding, Store}

-- the metavariables that the test leaves out
abbrev pub NotIn : (ℕ → Bool) → ℕ → Type 0
NotIn part m = part m ≡ false

-- The partial proof is a set of declared metavariables, the holes that are open and those that are filled. They stand in no type and in no
-- equation, and in no value but those of each other.
pub record ProofIsApart (part : ℕ → Bool) (s : Store) : Type 0 where
  pub declared : (m : ℕ) → part m ≡ true → Declares s.metavariables m
  pub types : (m : ℕ) (A : LfType) → s.metavariables m ≡ Some A → MetavariablesInType (NotIn part) A
  pub values : (b : Binding) → Member b s.bindings → part b.of ≡ false → MetavariablesIn (NotIn part) b.value
  pub equations : MetavariablesInEquations (NotIn part) s.equations
  pub equation_types : MetavariablesInEquationTypes (NotIn part) s.equations

-- each of these belongs to the partial proof, is not bound, and stands in the list once
abbrev pub AreOpenHoles : (ℕ → Bool) → List Binding → List ℕ → Type 0
AreOpenHoles part bs [] = Unit {0}
AreOpenHoles part bs (g ∷ gs) = (part g ≡ true) × Unbound bs g × (Member g gs → ⊥) × AreOpenHoles part bs gs

-- The goals of a node are open holes of a partial proof that stands apart.
pub record HolesAreOpen (node : Node) : Type 0 where
  pub part : ℕ → Bool
  pub apart : ProofIsApart part node.store
  pub open_holes : AreOpenHoles part node.store.bindings node.goals
