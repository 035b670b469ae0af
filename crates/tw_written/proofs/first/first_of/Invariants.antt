use Rattle.std.proofs.Common.{◌-◌, drop, length}
use Rattle.tw_written.specs.First.{AreFirstPlaces}
use Rattle.tw_written.specs.SiteView.{sites_of}
use Rattle.tw_written.proofs.first.first_of.Given as goal

-- the places of the occurrences that were met
abbrev pub invariant-loop-met : goal.invariant-loop-met
invariant-loop-met l = AreFirstPlaces (sites_of (drop (length l.occurrences - l.met) l.occurrences)) l.count l.places.items
