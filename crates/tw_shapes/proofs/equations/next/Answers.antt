use Rattle.tw_shapes.specs.View.{shape_of, store_of}
use Rattle.tw_shapes.specs.EquationView.{equation_of, equations_of}
use Rattle.tw_shapes.proofs.Equating.{seen-push, popped-within, part-goes, part-smaller, part-fails, part-binds}
use Rattle.tw_shapes.proofs.equations.next.Goals as goal

pub take_apart-requires-clause-within : goal.take_apart-requires-clause-within
take_apart-requires-clause-within c =
    (popped-within (store_of c.args.bindings.now) (equations_of c.args.pending.now.items) (equations_of c.equations.pending.items) (equations_of c.pop.new.self.items) (equation_of c.in-Some.equation) c.equations.invariant
    (seen-push c.pop.new.self.items c.equations.pending.items c.in-Some.equation c.in-Some.ensures.items)).0

pub take_apart-requires-clause-all_within : goal.take_apart-requires-clause-all_within
take_apart-requires-clause-all_within c =
    (popped-within (store_of c.args.bindings.now) (equations_of c.args.pending.now.items) (equations_of c.equations.pending.items) (equations_of c.pop.new.self.items) (equation_of c.in-Some.equation) c.equations.invariant
    (seen-push c.pop.new.self.items c.equations.pending.items c.in-Some.equation c.in-Some.ensures.items)).1

pub equations-smaller : goal.equations-smaller
equations-smaller c =
    part-smaller (store_of c.args.bindings.now) (equations_of c.equations.pending.items) (equations_of c.pop.new.self.items) (equations_of c.take_apart.new.pending.items) (equation_of c.in-Some.equation)
    (seen-push c.pop.new.self.items c.equations.pending.items c.in-Some.equation c.in-Some.ensures.items) (rw c.in-Goes.is at c.in_ok-take_apart.ensures)

pub equations-preserved : goal.equations-preserved
equations-preserved c =
    part-goes (store_of c.args.bindings.now) (equations_of c.args.pending.now.items) (equations_of c.equations.pending.items) (equations_of c.pop.new.self.items) (equations_of c.take_apart.new.pending.items) (equation_of c.in-Some.equation) c.equations.invariant
    (seen-push c.pop.new.self.items c.equations.pending.items c.in-Some.equation c.in-Some.ensures.items) (rw c.in-Goes.is at c.in_ok-take_apart.ensures)

pub returns-in-Fails : goal.returns-in-Fails
returns-in-Fails c =
    part-fails (store_of c.args.bindings.now) (equations_of c.args.pending.now.items) (equations_of c.equations.pending.items) (equations_of c.pop.new.self.items) (equation_of c.in-Some.equation) c.equations.invariant
    (seen-push c.pop.new.self.items c.equations.pending.items c.in-Some.equation c.in-Some.ensures.items) (rw c.in-Fails.is at c.in_ok-take_apart.ensures)

pub returns-in-Binds : goal.returns-in-Binds
returns-in-Binds c =
    part-binds (store_of c.args.bindings.now) (equations_of c.args.pending.now.items) (equations_of c.equations.pending.items) (equations_of c.pop.new.self.items) (equations_of c.take_apart.new.pending.items) (equation_of c.in-Some.equation)
    c.in-Binds.variable.0 (shape_of c.in-Binds.value) c.equations.invariant
    (seen-push c.pop.new.self.items c.equations.pending.items c.in-Some.equation c.in-Some.ensures.items) (rw c.in-Binds.is at c.in_ok-take_apart.ensures)
