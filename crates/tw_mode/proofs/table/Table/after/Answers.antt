use Rattle.std.proofs.Common.{map}
use Rattle.tw_clause.specs.View.{mark_of}
use Rattle.tw_mode.proofs.Tabling.{row_over}
use Rattle.tw_mode.proofs.table.Table.after.Goals as goal

pub returns : goal.returns
returns c = row_over c.args.rows.now c.args.family.0 (map mark_of c.args.marks.now)
