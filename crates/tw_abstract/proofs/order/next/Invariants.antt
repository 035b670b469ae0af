use Rattle.tw_abstract.specs.OrderView.{AreMet}
use Rattle.tw_abstract.proofs.Choosing.{NoneBefore}
use Rattle.tw_abstract.proofs.order.next.Given as goal

-- none so far can follow
abbrev pub invariant-loop-at : goal.invariant-loop-at
invariant-loop-at l = record { known : AreMet l.chosen l.candidates l.met; none : NoneBefore l.chosen l.candidates l.at }
