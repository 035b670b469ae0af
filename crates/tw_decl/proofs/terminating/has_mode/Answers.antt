use Rattle.std.proofs.Common.{◌∙◌, ap}
use Rattle.std.specs.FinMap.{get}
use Rattle.tw_mode.specs.ModeTables.{MarksByFamily}
use Rattle.tw_decl.proofs.Rows.{is_moded_by, is_unmoded}
use Rattle.tw_decl.proofs.terminating.has_mode.Goals as goal

pub returns-in-Some : goal.returns-in-Some
returns-in-Some c = is_moded_by c.args.session.now.checked.modes c.args.family.0 _ (c.in-Some.ensures ∙ ap (λ (m : MarksByFamily). get m c.args.family.0) c.modes.ensures)

pub returns-in-None : goal.returns-in-None
returns-in-None c = is_unmoded c.args.session.now.checked.modes c.args.family.0 (c.in-None.ensures ∙ ap (λ (m : MarksByFamily). get m c.args.family.0) c.modes.ensures)
