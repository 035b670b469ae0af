use Rattle.std.proofs.Common.{◌≤◌, List}
use Rattle.lf_unification.specs.Search.{Pending}
use Rattle.tw_search.specs.Going.{steps_left}
use Rattle.tw_search.specs.Standing.{IsAt, WentOn}
use Rattle.tw_search.proofs.search.Search.run.Given as goal

-- the search went on without a leaf
abbrev pub invariant-steps : goal.invariant-steps
invariant-steps l = record {
  within : l.self.tries ≤ l.last;
  at : (agenda : List Pending) × IsAt l.signature l.self agenda;
  went : (agenda : List Pending) → IsAt l.signature l.fn.self agenda → WentOn l.signature l.fn.self l.self agenda;
}

abbrev pub decreases-steps : goal.decreases-steps
decreases-steps l = steps_left l.last l.self
