use Rattle.std.proofs.Common.{◌≡◌, ◌++◌, drop, map}
use Rattle.lf.specs.Entries.{signature_of}
use Rattle.tw_print.specs.ShowEnv.{scene_of}
use Rattle.tw_query.specs.Rows.{AreShowable, row_of}
use Rattle.tw_query.specs.Text.{shown_in_rows}
use Rattle.tw_query.proofs.free.shown_in_rows.Given as goal

abbrev pub invariant-loop-row : goal.invariant-loop-row
invariant-loop-row l = record {
  so_far : l.shown.items ++ shown_in_rows (scene_of l.env) l.free (map row_of (drop l.row-index l.rows)) ≡ shown_in_rows (scene_of l.env) l.free (map row_of l.rows);
  showable : AreShowable (signature_of l.env.sig.now) l.free (map row_of (drop l.row-index l.rows));
}
