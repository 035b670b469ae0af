use Rattle.std.proofs.Common.{◌≡◌}
use Rattle.std.specs.Prelude.{drop, reverse}
use Rattle.tw_decl.specs.Operators.{with_rows}
use Rattle.tw_decl.specs.Undoing.{LeadsBack}
use Rattle.tw_decl.proofs.operators.set_rows.Given as goal

abbrev pub invariant-loop-x : goal.invariant-loop-x
invariant-loop-x l = record {
  set_so_far : with_rows l.table l.fix (drop l.x-index l.names) ≡ with_rows l.fn.table l.fix l.names;
  leads_back : LeadsBack l.table (reverse l.old.items) l.fn.table;
}
