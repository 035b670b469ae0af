use Rattle.tw_subord.specs.Rows.{rows_of}
use Rattle.tw_subord.specs.Walks.{walked}
use Rattle.tw_subord.proofs.Walking.{IsWalk}
use Rattle.tw_subord.proofs.closure.families_below.Given as goal

abbrev pub invariant-loop-next : goal.invariant-loop-next
invariant-loop-next l = IsWalk (rows_of l.links) l.family (walked l.walk) l.next
