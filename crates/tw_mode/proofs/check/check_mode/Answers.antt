use Rattle.std.proofs.Common.{◌∙◌, [], ◌∷◌, ap, map, subst}
use Rattle.std.specs.FinMap as finite
use Rattle.tw_clause.specs.View.{block_of, mark_of}
use Rattle.tw_mode.specs.Groups.{GroupOutcome}
use Rattle.tw_mode.specs.ModeTables.{mode_rows}
use Rattle.tw_mode.proofs.Tabling.{rows_have}
use Rattle.tw_mode.proofs.check.check_mode.Goals as goal

pub returns : goal.returns
returns c =
    let after = finite.insert c.args.modes.now c.args.family.0 (map mark_of c.args.marks.now) in
    subst (λ W. GroupOutcome c.args.sig.now (mode_rows after) W (c.args.family.0 ∷ []) c.check_rows.result) (ap (map block_of) c.new.ensures.items) (c.check_rows.ensures (mode_rows after) (λ f. c.after-table.ensures f ∙ rows_have after f))
