use Rattle.std.proofs.Common.{◌∙◌, sym, ap}
use Rattle.std.specs.FinMap as map
use Rattle.tw_fixity.proofs.Maps.{get_rows}
use Rattle.tw_fixity.proofs.table.FixTable.get_bytes.Goals as goal

pub returns : goal.returns
returns c = c.copied.ensures ∙ c.get.ensures.value ∙ sym (get_rows c.self.inside.rows.entries c.args.name.now) ∙ ap (λ m. map.get m c.args.name.now) c.self.view_is
