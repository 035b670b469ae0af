use Rattle.std.proofs.Common.{◌≡◌, [], length, map}
use Rattle.tw_abstract.specs.Order.{EachIsNext}
use Rattle.tw_abstract.specs.OrderView.{AreMet, waiting_of}
use Rattle.tw_abstract.proofs.Choosing.{waiting_count}
use Rattle.tw_abstract.proofs.order.quantifier_order.Given as goal

abbrev pub invariant-loop-meta : goal.invariant-loop-meta
invariant-loop-meta l = record { each : EachIsNext (map waiting_of l.candidates) [] l.chosen; known : AreMet l.chosen l.candidates l.met.items; len : length l.met.items ≡ length l.candidates }

abbrev pub decreases-loop-meta : goal.decreases-loop-meta
decreases-loop-meta l = waiting_count l.chosen l.candidates
