-- What the check of orders of a group comes to.
use Rattle.std.specs.Prelude.{ℕ, List, Result, Ok, Err}
use Rattle.lf.specs.Entries.{Entry, signature_of}
use Rattle.lf.specs.Subordination.{Block}
use Rattle.lf.specs.Syntax.{LfType}
use Rattle.lf_checks.specs.Clause.{Clause}
use Rattle.lf_checks.specs.Clauses.{NamedClause}
use Rattle.lf_checks.specs.Descent.{GroupDescends}
use Rattle.lf_checks.specs.Order.{Order}
use Rattle.lf_checks.specs.OrderFaults.{AllDescend, FirstOrderFault, GroupOrderFault}
use Rattle.tw_clause.specs.View.{name_of}
use Rattle.tw_order.specs.declared.fault.OrderFault.{OrderFault}
use Rattle.tw_order.specs.declared.fault.OrderFault.TheVariants.{Fault, NoMemory}

-- Each clause of the group descends, or it is the first that doesn't, by its first such subgoal.
abbrev pub OrderOutcome : List Entry → List Block → (ℕ → Order) → List ℕ → Result (Unit {0}) OrderFault → Type 0
OrderOutcome es W order group (Ok u) = GroupDescends (signature_of es) W order group
OrderOutcome es W order group (Err (Fault name k)) = GroupOrderFault es W order group (name_of name) k
OrderOutcome es W order group (Err NoMemory) = Unit {0}

-- The same of listed clauses, by any test of calls.
abbrev pub ListOutcome : (Clause → LfType → Type 0) → List ℕ → List NamedClause → Result (Unit {0}) OrderFault → Type 0
ListOutcome Descends group cs (Ok u) = AllDescend Descends group cs
ListOutcome Descends group cs (Err (Fault name k)) = FirstOrderFault Descends group cs (name_of name) k
ListOutcome Descends group cs (Err NoMemory) = Unit {0}
