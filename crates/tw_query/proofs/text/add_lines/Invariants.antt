use Rattle.std.proofs.Common.{◌≡◌, ◌++◌, drop, map}
use Rattle.lf.specs.Entries.{signature_of}
use Rattle.tw_print.specs.ShowEnv.{scene_of}
use Rattle.tw_query.specs.Rows.{AreShowable, row_of}
use Rattle.tw_query.specs.Text.{lines_of}
use Rattle.tw_query.proofs.text.add_lines.Given as goal

abbrev pub invariant-loop-row : goal.invariant-loop-row
invariant-loop-row l = record {
  so_far : l.text.items ++ lines_of (scene_of l.env) l.free l.names (map row_of (drop l.row-index l.rows)) ≡ l.fn.text.items ++ lines_of (scene_of l.env) l.free l.names (map row_of l.rows);
  showable : AreShowable (signature_of l.env.sig.now) l.free (map row_of (drop l.row-index l.rows));
}
