use Rattle.std.proofs.Common.{◌∙◌, ap, map}
use Rattle.std.specs.FinMap as finite
use Rattle.tw_clause.specs.View.{mark_of}
use Rattle.tw_mode.proofs.Tabling.{set_row}
use Rattle.tw_mode.proofs.mode_table.ModeTable.set.Goals as goal

pub returns-clause-ok : goal.returns-clause-ok
returns-clause-ok c =
    set_row c.self.inside.rows.entries c.insert.new.self.entries c.args.family.0 c.args.marks c.in_ok-insert.ensures.updates.1 c.in_ok-insert.ensures.updates.3
    ∙ ap (λ m. finite.insert m c.args.family.0 (map mark_of c.args.marks.items)) c.self.view_is
