use Rattle.std.proofs.Common.{◌∙◌, sym, ap}
use Rattle.std.specs.FinMap as map
use Rattle.tw_print.proofs.Maps.{get_rows, seen, seen_lent}
use Rattle.tw_print.proofs.names.Names.get.Goals as goal

pub returns : goal.returns
returns c = seen_lent c.get.result ∙ ap seen c.get.ensures.value ∙ sym (get_rows c.self.inside.rows.entries c.args.family.0) ∙ ap (λ m. map.get m c.args.family.0) c.self.view_is
