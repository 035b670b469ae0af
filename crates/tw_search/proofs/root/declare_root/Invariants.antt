use Rattle.std.proofs.Common.{◌-◌, ◌≤◌, drop}
use Rattle.tw_search.specs.Roots.{IsDeclaredAs}
use Rattle.tw_search.proofs.root.declare_root.Given as goal

-- the outermost variables so far
abbrev pub invariant-loop-place : goal.invariant-loop-place
invariant-loop-place l = record {
  within : l.place ≤ l.count;
  declared : IsDeclaredAs (drop (l.count - l.place) l.variables) l.store.now;
}

abbrev pub decreases-loop-place : goal.decreases-loop-place
decreases-loop-place l = l.count - l.place
