use Rattle.std.proofs.Common.{◌∙◌, Some, ap, map, option_map, sym}
use Rattle.std.specs.FinMap as finite
use Rattle.tw_clause.specs.View.{mark_of}
use Rattle.tw_mode.proofs.Tabling.{get_rows, marks_in, seen, seen_lent}
use Rattle.tw_mode.proofs.mode_table.ModeTable.marks.Goals as goal

pub returns-in-Some : goal.returns-in-Some
returns-in-Some c =
    ap (λ xs. Some (map mark_of xs)) c.as_slice.ensures.value
    ∙ ap (option_map (λ p. marks_in p.now)) (sym c.in-Some.is)
    ∙ seen_lent c.get.result ∙ ap seen c.get.ensures.value ∙ sym (get_rows c.self.inside.rows.entries c.args.family.0) ∙ ap (λ m. finite.get m c.args.family.0) c.self.view_is

pub returns-in-None : goal.returns-in-None
returns-in-None c =
    ap (option_map (λ p. marks_in p.now)) (sym c.in-None.is)
    ∙ seen_lent c.get.result ∙ ap seen c.get.ensures.value ∙ sym (get_rows c.self.inside.rows.entries c.args.family.0) ∙ ap (λ m. finite.get m c.args.family.0) c.self.view_is
