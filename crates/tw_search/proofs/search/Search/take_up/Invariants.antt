use Rattle.std.proofs.Common.{◌≡◌, ◌-◌, ◌≤◌, List}
use Rattle.lf_unification.specs.Search.{Pending}
use Rattle.tw_search.specs.Standing.{IsTakenUp, choices_of}
use Rattle.tw_search.specs.declared.step.Place.TheVariants as places
use Rattle.tw_search.proofs.Passing.{PassedTo}
use Rattle.tw_search.proofs.search.Search.take_up.Given as goal

-- heads that clash were passed over
abbrev pub invariant-heads : goal.invariant-heads
invariant-heads l = record {
  place : l.self.place ≡ places.Heads;
  within : l.self.tries ≤ l.last;
  choices : choices_of l.self ≡ choices_of l.fn.self;
  passed : (agenda : List Pending) → IsTakenUp l.signature l.fn.self l.fn.choice agenda → PassedTo l.signature l.fn.self l.self l.choice agenda;
}

abbrev pub decreases-heads : goal.decreases-heads
decreases-heads l = l.last - l.self.tries
