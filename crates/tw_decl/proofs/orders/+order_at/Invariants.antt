use Rattle.std.proofs.Common.{◌≡◌, ◌++◌, suc}
use Rattle.std.specs.Prelude.{drop, map}
use Rattle.lf_checks.specs.Marks.{input_places}
use Rattle.tw_clause.specs.Orders.{order_of}
use Rattle.tw_clause.specs.View.{mark_of}
use Rattle.tw_decl.proofs.Ordered.{Decide, component}
use Rattle.tw_decl.proofs.orders.+order_at.Given as goal

abbrev pub invariant-loop-component : goal.invariant-loop-component
invariant-loop-component l = record {
  made : map order_of l.orders.items ++ map (component (input_places (map mark_of l.marks)) l.number (suc l.implicit) l.names) (drop l.component-index l.component-items) ≡ map (component (input_places (map mark_of l.marks)) l.number (suc l.implicit) l.names) l.component-items;
  decide : Decide (input_places (map mark_of l.marks)) (map (component (input_places (map mark_of l.marks)) l.number (suc l.implicit) l.names) (drop l.component-index l.component-items)) (map (component (input_places (map mark_of l.marks)) l.number (suc l.implicit) l.names) l.component-items);
}

abbrev pub invariant-loop-component-2 : goal.invariant-loop-component-2
invariant-loop-component-2 l = record {
  made : map order_of l.orders.items ++ map (component (input_places (map mark_of l.marks)) l.number (suc l.implicit) l.names) (drop l.component-index l.component-items) ≡ map (component (input_places (map mark_of l.marks)) l.number (suc l.implicit) l.names) l.component-items;
  decide : Decide (input_places (map mark_of l.marks)) (map (component (input_places (map mark_of l.marks)) l.number (suc l.implicit) l.names) (drop l.component-index l.component-items)) (map (component (input_places (map mark_of l.marks)) l.number (suc l.implicit) l.names) l.component-items);
}
