use Rattle.std.proofs.Common.{◌∙◌, ap}
use Rattle.std.specs.FinMap as map
use Rattle.tw_fixity.specs.Rows.{rows_of}
use Rattle.tw_fixity.proofs.Maps.{remove_row}
use Rattle.tw_fixity.proofs.table.FixTable.remove.Goals as goal

pub returns : goal.returns
returns c =
    remove_row c.self.inside.rows.entries c.swap_remove.new.self.entries c.as_bytes.result.now c.swap_remove.ensures.updates.1 c.swap_remove.ensures.updates.3
    ∙ ap (map.remove (rows_of c.self.inside.rows.entries)) c.as_bytes.ensures
    ∙ ap (λ m. map.remove m c.args.name.now) c.self.view_is
