use Rattle.std.proofs.Common.{◌≡◌, map, take}
use Rattle.tw_clause.specs.Tables.{world_row_of}
use Rattle.tw_clause.specs.View.{worlds_of}
use Rattle.tw_terms.specs.declared.canonical.ConstId.{ConstId}
use Rattle.tw_decl.specs.View.{world_row}
use Rattle.tw_decl.proofs.world_rows.rows_of.Given as goal

abbrev pub invariant-loop-family : goal.invariant-loop-family
invariant-loop-family l = map world_row_of l.rows.items ≡ map (λ (f : ConstId). world_row (worlds_of l.worlds) f.0) (take l.family-index l.families)
