use Rattle.std.proofs.Common.{reverse, refl, ap, ◌∙◌}
use Rattle.std.proofs.lemmas.List.{reverse-reverse}
use Rattle.tw_print.proofs.Printing.{on_ok}
use Rattle.tw_print.proofs.due.push_type.Goals as goal

pub returns : goal.returns
returns c = on_ok c.push.result _ _ (λ e. record { type = c.args.ty; marks = c.reverse.new.self; is_of = refl; marked = ap reverse c.reverse.ensures.items ∙ reverse-reverse c.in_ok-marks.marks.items ∙ c.in_ok-marks.ensures; puts = e }) c.push.ensures
