use Rattle.std.proofs.Common.{sym}
use Rattle.tw_approx.specs.Reading.{state_of}
use Rattle.tw_shapes.proofs.Views.{shape_of-Variable}
use Rattle.tw_approx.proofs.Naming.{known_reads, new_reads}
use Rattle.tw_approx.proofs.Unifying.{IsFresh}
use Rattle.tw_approx.proofs.skeletons.uppercase_shape.Goals as goal

pub returns-in-Some : goal.returns-in-Some
returns-in-Some c = rw (shape_of-Variable c.in-Some.variable) (known_reads (state_of c.args.walk.now) c.args.name.now c.in-Some.variable.0 c.requires.sound c.requires.uppercase (sym c.in-Some.ensures))

pub returns-in_ok-push-in-None : goal.returns-in_ok-push-in-None
returns-in_ok-push-in-None c =
    let v = c.in_ok-variable-in-None.variable in
    let e = c.in_ok-variable-in-None.ensures in
    let fresh : IsFresh c.args.walk.now.shapes c.fresh.new.self v.0 = record { number = e.number; within = e.within; count = e.count; same = e.same; unused = e.unused } in
    rw (shape_of-Variable v, c.in_ok-push-in-None.ensures.ok) (new_reads (state_of c.args.walk.now) c.fresh.new.self c.args.name.now v.0 c.requires.sound fresh c.requires.uppercase (sym c.in-None.ensures))
