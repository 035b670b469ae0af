use Rattle.std.proofs.Common.{◌≡◌, ◌≤◌, ◌-◌, length}
use Rattle.tw_terms.specs.View.{type_of}
use Rattle.tw_world.proofs.Solving.{PassBefore, solved}
use Rattle.tw_world.proofs.clause.clause_fault.Given as goal

abbrev pub invariant-loop-index : goal.invariant-loop-index
invariant-loop-index l = record {
  number : l.number ≡ solved (type_of l.ty) l.index;
  within : l.number ≤ l.index;
  before : PassBefore l.check l.outer (type_of l.ty) l.index;
}

abbrev pub decreases-loop-index : goal.decreases-loop-index
decreases-loop-index l = length l.shape.items - l.index
