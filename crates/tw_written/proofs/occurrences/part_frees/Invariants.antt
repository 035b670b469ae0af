use Rattle.std.proofs.Common.{◌≡◌, ◌++◌, reverse}
use Rattle.tw_written.specs.Parts.{frees_in, frees_left, work}
use Rattle.tw_written.specs.SiteView.{sites_of}
use Rattle.tw_written.proofs.occurrences.part_frees.Given as goal

-- those so far, and those of what waits
abbrev pub invariant-loop-next : goal.invariant-loop-next
invariant-loop-next l = sites_of l.found.items ++ frees_left (reverse l.waiting.items) ≡ sites_of l.fn.found.items ++ frees_in l.fn.part

abbrev pub decreases-loop-next : goal.decreases-loop-next
decreases-loop-next l = work l.waiting.items
