use Rattle.std.proofs.Common.{◌∙◌}
use Rattle.tw_mode.specs.ModeTables.{mode_rows}
use Rattle.tw_mode.proofs.Tabling.{rows_have}
use Rattle.tw_mode.proofs.check.check_modes.Goals as goal

pub returns : goal.returns
returns c = c.check_rows.ensures (mode_rows c.args.modes.now) (λ f. c.of-table.ensures f ∙ rows_have c.args.modes.now f)
