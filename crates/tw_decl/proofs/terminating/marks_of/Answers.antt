use Rattle.std.proofs.Common.{◌∙◌, ap, map}
use Rattle.std.specs.FinMap.{get}
use Rattle.tw_clause.specs.View.{mark_of}
use Rattle.tw_mode.specs.ModeTables.{MarksByFamily}
use Rattle.tw_decl.proofs.Rows.{marks_none, marks_some}
use Rattle.tw_decl.proofs.terminating.marks_of.Goals as goal

pub returns-in-Some : goal.returns-in-Some
returns-in-Some c = marks_some c.args.session.now.checked.modes c.args.family.0 (map mark_of c.in-Some.marks.now) (c.in-Some.ensures ∙ ap (λ (m : MarksByFamily). get m c.args.family.0) c.modes.ensures)

pub returns-in-None : goal.returns-in-None
returns-in-None c = marks_none c.args.session.now.checked.modes c.args.family.0 (c.in-None.ensures ∙ ap (λ (m : MarksByFamily). get m c.args.family.0) c.modes.ensures)
