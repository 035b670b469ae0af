use Rattle.std.proofs.Common.{◌∙◌, ap}
use Rattle.std.specs.FinMap as map
use Rattle.tw_print.specs.View.{preferences_of}
use Rattle.tw_print.proofs.Maps.{set_row}
use Rattle.tw_print.proofs.names.Names.set.Goals as goal

pub returns-clause-ok : goal.returns-clause-ok
returns-clause-ok c =
    set_row c.self.inside.rows.entries c.insert.new.self.entries c.args.family.0 c.args.preference c.in_ok-insert.ensures.updates.1 c.in_ok-insert.ensures.updates.3
    ∙ ap (λ m. map.insert m c.args.family.0 (preferences_of c.args.preference)) c.self.view_is
