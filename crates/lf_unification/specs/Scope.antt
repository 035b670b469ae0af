-- Which metavariables a store mentions, and which numbers are free in it.
use Rattle.std.specs.Prelude.{◌≡◌, ℕ, ◌≤◌, List, [], ◌∷◌, Option, Some, None}
use Rattle.lf.specs.Syntax.{LfType}
use Rattle.lf_unification.specs.Offering.{MetavariablesInLocals}
use Rattle.lf_unification.specs.OpenTyping.{Declares, MetavariablesIn, MetavariablesInType}
use Rattle.lf_unification.specs.Unifiers.{Binding, Equation}

-- each metavariable that is bound, or stands in a value, is in V
abbrev pub MetavariablesInBindings : (ℕ → Type 0) → List Binding → Type 0
MetavariablesInBindings V [] = Unit {0}
MetavariablesInBindings V (b ∷ bs) = V b.of × MetavariablesIn V b.value × MetavariablesInBindings V bs

-- each metavariable that stands in a side is in V
abbrev pub MetavariablesInEquations : (ℕ → Type 0) → List Equation → Type 0
MetavariablesInEquations V [] = Unit {0}
MetavariablesInEquations V (e ∷ es) = MetavariablesIn V e.left × MetavariablesIn V e.right × MetavariablesInEquations V es

-- and the same of its local context and its type
abbrev pub MetavariablesInEquationTypes : (ℕ → Type 0) → List Equation → Type 0
MetavariablesInEquationTypes V [] = Unit {0}
MetavariablesInEquationTypes V (e ∷ es) = MetavariablesInLocals V e.local × MetavariablesInType V e.of_type × MetavariablesInEquationTypes V es

-- Every metavariable that is mentioned is declared, and no number from `next` on is.
pub record IsScoped (Ψ : ℕ → Option LfType) (next : ℕ) (bs : List Binding) (es : List Equation) : Type 0 where
  pub fresh : (m : ℕ) → next ≤ m → Ψ m ≡ None
  pub types : (m : ℕ) (A : LfType) → Ψ m ≡ Some A → MetavariablesInType (Declares Ψ) A
  pub bindings : MetavariablesInBindings (Declares Ψ) bs
  pub equations : MetavariablesInEquations (Declares Ψ) es
  pub equation_types : MetavariablesInEquationTypes (Declares Ψ) es
