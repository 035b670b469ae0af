use Rattle.std.proofs.Common.{◌≡◌, ◌++◌, drop, map}
use Rattle.tw_signature.specs.Goal.{goal_of}
use Rattle.tw_terms.specs.View.{term_of, type_of}
use Rattle.tw_query.specs.Rows.{row_of}
use Rattle.tw_query.specs.Text.{rows_for}
use Rattle.tw_query.proofs.rows.rows.Given as goal

abbrev pub invariant-loop-variable : goal.invariant-loop-variable
invariant-loop-variable l =
    let values = map term_of l.answer.values.items in
    map row_of l.rows.items ++ rows_for (goal_of l.goal) values (map type_of l.types.items) (drop l.variable-index l.goal.shown.items) ≡ rows_for (goal_of l.goal) values (map type_of l.types.items) l.goal.shown.items
