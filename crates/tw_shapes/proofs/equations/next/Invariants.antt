use Rattle.tw_shapes.specs.Equations.{walk_of_all, IsPart}
use Rattle.tw_shapes.specs.View.{store_of}
use Rattle.tw_shapes.specs.EquationView.{equations_of}
use Rattle.tw_shapes.proofs.equations.next.Given as goal

abbrev pub invariant-equations : goal.invariant-equations
invariant-equations l = IsPart (store_of l.fn.bindings) (equations_of l.fn.pending.items) (equations_of l.pending.items)

abbrev pub decreases-equations : goal.decreases-equations
decreases-equations l = walk_of_all (store_of l.fn.bindings) (equations_of l.pending.items)
