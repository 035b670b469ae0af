use Rattle.std.proofs.Common.{◌≡◌, ◌≤◌, ◌-◌, length, drop, take, map}
use Rattle.tw_clause.specs.Tables.{world_row_of}
use Rattle.tw_terms.specs.declared.canonical.ConstId.{ConstId}
use Rattle.tw_decl.proofs.TakenOut.{standing}
use Rattle.tw_decl.proofs.world_rows.take_out.Given as goal

abbrev pub decreases-loop-at : goal.decreases-loop-at
decreases-loop-at l = length l.rows.items - l.at

abbrev pub invariant-loop-at : goal.invariant-loop-at
invariant-loop-at l = record {
  within : l.at ≤ length l.rows.items;
  stands : standing world_row_of (map (λ (f : ConstId). f.0) l.families) (take l.at l.rows.items) (drop l.at l.rows.items) ≡ standing world_row_of (map (λ (f : ConstId). f.0) l.families) (take l.fn.from l.fn.rows.items) (drop l.fn.from l.fn.rows.items);
}
