-- What solving answers, between the store that it is handed and the store that it leaves. All metavariables stand in the empty context.
use Rattle.std.specs.Prelude.{◌≡◌, ℕ, List, [], ◌∷◌, Option, Some}
use Rattle.lf.specs.Subordination.{Member}
use Rattle.lf.specs.Syntax.{Term, LfType}
use Rattle.lf.specs.Typing.{Signature}
use Rattle.lf_unification.specs.Dependency.{IsDependencyOrder, IsListed, ListedMetavariable}
use Rattle.lf_unification.specs.OpenTyping.{Declares, MetavariablesIn}
use Rattle.lf_unification.specs.Outside.{Outside}
use Rattle.lf_unification.specs.PartialInstance.{IsFilling, IsTypedStore}
use Rattle.lf_unification.specs.Putting.{PutsIn, binders}
use Rattle.lf_unification.specs.Reach.{IsInside}
use Rattle.lf_unification.specs.Steps.{Run}
use Rattle.lf_unification.specs.Unifiers.{Binding, Equation, KeepsUnifiers, Solution, Store}

-- each binding is the value of a listed metavariable
abbrev pub BindingsAreListed : List ListedMetavariable → List Binding → Type 0
BindingsAreListed is [] = Unit {0}
BindingsAreListed is (b ∷ bs) = ((A : LfType) × Member (record { of = b.of; of_type = A; value = Some b.value }) is) × BindingsAreListed is bs

-- each value of the list is a binding
abbrev pub ValuesAreBindings : List Binding → List ListedMetavariable → Type 0
ValuesAreBindings bs [] = Unit {0}
ValuesAreBindings bs (it ∷ is) = ((N : Term) → it.value ≡ Some N → Member (record { of = it.of; value = N }) bs) × ValuesAreBindings bs is

-- A well-formed store: it is typed up to its own fillings, and its metavariables have an order of dependency, in which types and values
-- mention only what stands behind. Without such an order no context could hold those that stay free. It alone forbids circles: a value
-- may mention metavariables that are bound.
pub record IsWellFormed (Σ : Signature) (s : Store) : Type 0 where
  pub order : List ListedMetavariable
  pub is_order : IsDependencyOrder Σ s.metavariables (IsFilling Σ [] s) order
  pub all_listed : (m : ℕ) (A : LfType) → s.metavariables m ≡ Some A → IsListed order m
  pub bindings_listed : BindingsAreListed order s.bindings
  pub values_bound : ValuesAreBindings s.bindings order
  pub typed : IsTypedStore Σ [] s

-- the store has no typed unifier
abbrev pub Never : Signature → List LfType → Store → Type 0
Never Σ G s = (F : List LfType) (β : ℕ → Option Term) → Solution Σ G s F β → ⊥

-- Solved: permitted steps lead there. The typed unifiers are kept, so that the bindings are most general; nothing is left, and the store
-- is well formed, so that there is a typed unifier.
pub record Solved (Σ : Signature) (before after : Store) : Type 0 where
  pub run : Run Σ before after
  pub keeps : KeepsUnifiers Σ [] before after
  pub well_formed : IsWellFormed Σ after
  pub none_left : after.equations ≡ []

-- An equation of the store s that is left over. With all bindings put in it is outside the pattern fragment; and it is none of the
-- solver's own making: each of its metavariables is a given one, or stands in the value of a given one.
pub record LeftOver (given : ℕ → Option LfType) (s : Store) (e : Equation) : Type 0 where
  pub shown : Equation
  pub same_local : shown.local ≡ e.local
  pub put_left : PutsIn s.metavariables s.bindings (binders e.local) e.left shown.left
  pub put_right : PutsIn s.metavariables s.bindings (binders e.local) e.right shown.right
  pub inside_left : MetavariablesIn (IsInside (Declares given) s.bindings) shown.left
  pub inside_right : MetavariablesIn (IsInside (Declares given) s.bindings) shown.right
  pub outside : Outside s.metavariables s.bindings shown

-- each equation of a list
abbrev pub AllLeftOver : (ℕ → Option LfType) → Store → List Equation → Type 0
AllLeftOver given s [] = Unit {0}
AllLeftOver given s (e ∷ es) = LeftOver given s e × AllLeftOver given s es

-- Left: permitted steps lead there, so that no metavariable is added without need. The bindings are most general relative to equations
-- that are all left over.
pub record Left (Σ : Signature) (before after : Store) : Type 0 where
  pub run : Run Σ before after
  pub keeps : KeepsUnifiers Σ [] before after
  pub well_formed : IsWellFormed Σ after
  pub some_left : after.equations ≡ [] → ⊥
  pub all_left_over : AllLeftOver before.metavariables after after.equations
