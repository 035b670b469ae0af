use Rattle.std.proofs.Common.{◌∙◌}
use Rattle.std.specs.FinMap as finite
use Rattle.tw_mode.proofs.Tabling.{none_over, over_found, over_passed}
use Rattle.tw_mode.proofs.table.Table.find.Goals.{in_default-via-in-Some+else-row-family, in_default-via-in_default}
use Rattle.tw_mode.proofs.table.Table.find.Goals as goal

pub returns-in-Some : goal.returns-in-Some
returns-in-Some c = over_found (finite.get c.args.self.now.rows.now) c.args.family.0 c.args.self.now.over c.in-Some.row c.in-Some.is c.if-row-family.true

pub returns-in_default : goal.returns-in_default
returns-in_default c =
    let r = finite.get c.args.self.now.rows.now in
    c.marks.ensures ∙ elim c.in_default.branch [
      | in_default-via-in-Some+else-row-family w ↦ over_passed r c.args.family.0 c.args.self.now.over w.in-Some.row w.in-Some.is w.if-row-family.false
      | in_default-via-in_default w ↦ none_over r c.args.family.0 c.args.self.now.over w.in_default.is
    ]
