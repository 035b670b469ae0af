-- The plain record that a record of the program stands for.
use Rattle.std.specs.Prelude.{ℕ, List, [], ◌∷◌, map, Vec, cond}
use Rattle.std.specs.Global.{Global}
use Rattle.lf.specs.Variables.{same_number}
use Rattle.lf_checks.specs.ModeRows.{marks_of}
use Rattle.lf_checks.specs.Order.{Order, no_order, lexicographic}
use Rattle.lf_checks.specs.Tests.{is_in}
use Rattle.lf_totality.specs.Group.{Checked}
use Rattle.tw_clause.specs.Orders.{order_of}
use Rattle.tw_clause.specs.Tables.{mode_rows_of}
use Rattle.tw_clause.specs.View.{worlds_of}
use Rattle.tw_clause.specs.declared.order.Order.{Order as ProgramOrder}
use Rattle.tw_terms.specs.declared.canonical.ConstId.{ConstId}
use Rattle.tw_total.specs.declared.record.TotalRecord.{TotalRecord}
use Rattle.tw_total.specs.declared.record.Totals.{Totals}

-- a family with its order
pub record OrderRow : Type 0 where
  pub family : ℕ
  pub order : Order

abbrev pub order_row_of : ConstId × ProgramOrder → OrderRow
order_row_of r = record { family = r.0.0; order = order_of r.1 }

-- the families of a group
abbrev pub families_of : List OrderRow → List ℕ
families_of rows = map (λ r. r.family) rows

-- the order of a family; what has no row has an order that makes nothing smaller
abbrev pub order_for : List OrderRow → ℕ → Order
order_for [] f = lexicographic no_order
order_for (r ∷ rows) f = cond (same_number r.family f) r.order (order_for rows f)

abbrev pub numbers_of : List ConstId → List ℕ
numbers_of cs = map (λ c. c.0) cs

-- a family with those below it
abbrev pub below_row_of : ConstId × Vec ConstId Global → ℕ × List ℕ
below_row_of r = (r.0.0, numbers_of r.1.items)

-- those in the row of a family, and none without a row
abbrev pub listed_for : List (ℕ × List ℕ) → ℕ → List ℕ
listed_for [] f = []
listed_for (r ∷ rows) f = cond (same_number r.0 f) r.1 (listed_for rows f)

-- what the record says
abbrev pub checked_of : TotalRecord → Checked
checked_of r = record {
  families = numbers_of r.families.items;
  marks = marks_of (mode_rows_of r.modes);
  worlds = worlds_of r.worlds;
  below = λ f b. is_in b (listed_for (map below_row_of r.below.items) f);
  frozen = λ b. is_in b (numbers_of r.frozen.items);
}

abbrev pub records_of : Totals → List Checked
records_of t = map checked_of t.records.items
