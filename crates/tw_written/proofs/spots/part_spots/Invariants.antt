use Rattle.std.proofs.Common.{◌≡◌, ◌++◌, reverse}
use Rattle.tw_written.specs.Parts.{spots_in, spots_left, work}
use Rattle.tw_written.specs.SiteView.{spots_of}
use Rattle.tw_written.proofs.spots.part_spots.Given as goal

-- those so far, and those of what waits
abbrev pub invariant-loop-next : goal.invariant-loop-next
invariant-loop-next l = spots_of l.spots.items ++ spots_left l.signature (reverse l.waiting.items) ≡ spots_of l.fn.spots.items ++ spots_in l.signature l.fn.part

abbrev pub decreases-loop-next : goal.decreases-loop-next
decreases-loop-next l = work l.waiting.items
