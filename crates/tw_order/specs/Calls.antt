-- Calls to a group: those that are equal to the head, and those that descend.
use Rattle.std.specs.Prelude.{◌≡◌, ◌⊎◌, ◌↔◌, ℕ, List, Option, Some, None}
use Rattle.lf.specs.Subordination.{Block, Member}
use Rattle.lf.specs.Syntax.{LfType}
use Rattle.lf.specs.Typing.{Signature}
use Rattle.lf.specs.Variables.{target}
use Rattle.lf_checks.specs.Clause.{Clause}
use Rattle.lf_checks.specs.Descent.{EqualCall, SameArgument, SameCall, SmallerArgument}
use Rattle.lf_checks.specs.Order as lf
use Rattle.tw_clause.specs.declared.order.Order.{Order}
use Rattle.tw_terms.specs.declared.canonical.ConstId.{ConstId}
use Rattle.tw_order.specs.Goals.{goals_of}
use Rattle.tw_order.specs.Leading.{HasEdge, Leads}
use Rattle.tw_order.specs.Rows.{families_of, orders_by}
use Rattle.tw_order.specs.declared.leading.Edge.{Edge}

-- no fault, or this one
abbrev pub Outcome : {X : Type 0} → Type 0 → (X → Type 0) → Option X → Type 0
Outcome Passes Fails None = Passes
Outcome Passes Fails (Some x) = Fails x

-- the subgoal A of the clause, one of a, is a call to b of the group, and equal to the head
abbrev pub IsEqualTo : List (ConstId × Order) → Clause → LfType → ℕ → ℕ → Type 0
IsEqualTo rows c A a b = (target c.type ≡ a) × (target A ≡ b) × Member b (families_of rows) × SameCall (orders_by rows) c A

-- some subgoal is, and of some clause
abbrev pub IsEqualIn : List (ConstId × Order) → Clause → ℕ → ℕ → Type 0
IsEqualIn rows c a b = (A : LfType) × Member A (goals_of c.type) × IsEqualTo rows c A a b

abbrev pub IsEqualAmong : List (ConstId × Order) → List Clause → ℕ → ℕ → Type 0
IsEqualAmong rows cs a b = (c : Clause) × Member c cs × IsEqualIn rows c a b

-- the list has exactly the equal calls of the group
abbrev pub AreEqualCalls : Signature → List Block → List (ConstId × Order) → List Edge → Type 0
AreEqualCalls Σ W rows edges = (a b : ℕ) → HasEdge edges a b ↔ EqualCall Σ W (orders_by rows) (families_of rows) a b

-- less by these orders, or the same where no calls of the list lead back
abbrev pub DescendsBy : Signature → List Edge → lf.Order → lf.Order → Clause → LfType → Type 0
DescendsBy Σ edges O P c A = lf.Less (SmallerArgument Σ c A) (SameArgument c A) O P ⊎ (lf.Same (SameArgument c A) O P × (Leads edges (target A) (target c.type) → ⊥))
