-- The plain rows that tables of the program stand for.
use Rattle.std.specs.Prelude.{List, map, Vec}
use Rattle.std.specs.Global.{Global}
use Rattle.lf_checks.specs.ModeRows.{ModeRow}
use Rattle.lf_checks.specs.WorldFaults.{WorldRow}
use Rattle.tw_terms.specs.declared.canonical.ConstId.{ConstId}
use Rattle.tw_clause.specs.View.{mark_of, worlds_of}
use Rattle.tw_clause.specs.declared.block.Worlds.{Worlds}
use Rattle.tw_clause.specs.declared.modes.Modes.{Modes}
use Rattle.tw_clause.specs.declared.modes.WorldRows.{WorldRows}
use Rattle.tw_clause.specs.declared.name.Mark3.{Mark3}

abbrev pub mode_row_of : ConstId × Vec Mark3 Global → ModeRow
mode_row_of r = record { family = r.0.0; marks = map mark_of r.1.items }

abbrev pub mode_rows_of : Modes → List ModeRow
mode_rows_of m = map mode_row_of m.rows.items

abbrev pub world_row_of : ConstId × Worlds → WorldRow
world_row_of r = record { family = r.0.0; blocks = worlds_of r.1 }

abbrev pub world_rows_of : WorldRows → List WorldRow
world_rows_of w = map world_row_of w.rows.items
