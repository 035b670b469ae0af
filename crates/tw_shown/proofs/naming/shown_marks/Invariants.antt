use Rattle.tw_shown.proofs.Lists.{Marked}
use Rattle.tw_shown.proofs.naming.shown_marks.Given as goal

abbrev pub invariant-loop-variable : goal.invariant-loop-variable
invariant-loop-variable l = Marked l.count l.variable-index l.shown l.marks.items
