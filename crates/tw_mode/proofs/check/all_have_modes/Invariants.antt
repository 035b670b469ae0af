use Rattle.std.proofs.Common.{◌-◌, Result, drop, length}
use Rattle.tw_clause.specs.View.{worlds_of}
use Rattle.tw_mode.specs.Groups.{ModesOutcome}
use Rattle.tw_mode.specs.Listing.{listed_clauses}
use Rattle.tw_mode.specs.Rows.{moded_in}
use Rattle.tw_mode.specs.declared.fault.ModeFault.{ModeFault}
use Rattle.tw_mode.proofs.check.all_have_modes.Given as goal

abbrev pub decreases-loop-next : goal.decreases-loop-next
decreases-loop-next l = length l.listed - l.next

abbrev pub invariant-loop-next : goal.invariant-loop-next
invariant-loop-next l = (r : Result (Unit {0}) ModeFault) → ModesOutcome (moded_in l.table) (listed_clauses l.sig (worlds_of l.worlds) (drop l.next l.listed)) r → ModesOutcome (moded_in l.table) (listed_clauses l.sig (worlds_of l.worlds) l.listed) r
