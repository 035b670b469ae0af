use Rattle.std.proofs.Common.{◌≤◌, ◌-◌, length}
use Rattle.tw_abstract.specs.OrderView.{AreChosen}
use Rattle.tw_abstract.proofs.order.chosen_needs.Given as goal

-- those so far are chosen
abbrev pub invariant-loop-count : goal.invariant-loop-count
invariant-loop-count l = record { within : l.count ≤ length l.needs; chosen : AreChosen l.chosen l.needs l.count }

abbrev pub decreases-loop-count : goal.decreases-loop-count
decreases-loop-count l = length l.initial.needs - l.count
