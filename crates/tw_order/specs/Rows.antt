-- The families of a group and their orders.
use Rattle.std.specs.Prelude.{ℕ, List, [], ◌∷◌, map, Option, Some, None, cond}
use Rattle.lf.specs.Variables.{same_number}
use Rattle.lf_checks.specs.Order as lf
use Rattle.tw_clause.specs.Orders.{order_of}
use Rattle.tw_clause.specs.declared.order.Order.{Order}
use Rattle.tw_terms.specs.declared.canonical.ConstId.{ConstId}

-- the families, in their order
abbrev pub families_of : List (ConstId × Order) → List ℕ
families_of rows = map (λ r. r.0.0) rows

-- the order of a family: the first row counts
abbrev pub row_order : List (ConstId × Order) → ℕ → Option lf.Order
row_order [] f = None
row_order (r ∷ rs) f = cond (same_number r.0.0 f) (Some (order_of r.1)) (row_order rs f)

-- what has no row has the order {}, by which nothing is less
abbrev pub or_empty : Option lf.Order → lf.Order
or_empty (Some o) = o
or_empty None = lf.lexicographic lf.no_order

abbrev pub orders_by : List (ConstId × Order) → ℕ → lf.Order
orders_by rows f = or_empty (row_order rows f)
